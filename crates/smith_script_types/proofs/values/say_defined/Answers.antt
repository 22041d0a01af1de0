use Rattle.std.specs.Prelude.{string_bytes}
use Rattle.smith_syntax.specs.Signature.{named}
use Rattle.smith_tree.specs.TypeScript.{script_case, script_field, script_label}
use Rattle.smith_script_types.proofs.Turns.{members_map}
use Rattle.smith_scopes.specs.Nodes.{shown_marked}
use Rattle.smith_script_types.proofs.values.say_defined.Goals as goal

pub returns-in-Record : goal.returns-in-Record
returns-in-Record c =
    rw (c.in-Record.is, members_map (script_field c.args.config.now (shown_marked c.args.own.now)) named 1 100 c.in-Record.ty.fields.items)
    (rw c.deref.ensures.value at c.say_list.ensures)

pub returns-in-Variant : goal.returns-in-Variant
returns-in-Variant c =
    rw (c.in-Variant.is, members_map (script_case c.args.config.now (shown_marked c.args.own.now)) named 1 100 c.in-Variant.ty.cases.items)
    (rw c.deref-in-Variant.ensures.value at c.say_list-in-Variant.ensures)

pub returns-in-Flags : goal.returns-in-Flags
returns-in-Flags c =
    rw (c.in-Flags.is, members_map (script_label c.args.config.now) string_bytes 1 32 c.in-Flags.ty.fields.items)
    (rw c.deref-in-Flags.ensures.value at c.say_list-in-Flags.ensures)

pub returns-in-Enum : goal.returns-in-Enum
returns-in-Enum c =
    rw (c.in-Enum.is, members_map (script_label c.args.config.now) string_bytes 1 100 c.in-Enum.ty.variants.items)
    (rw c.deref-in-Enum.ensures.value at c.say_list-in-Enum.ensures)
