use Rattle.std.proofs.Common.{◌++◌, map, ap, sym, ◌∙◌}
use Rattle.std.proofs.lemmas.List.Folds.{flat_map-map}
use Rattle.std.specs.Prelude.{codes, string_bytes}
use Rattle.std.specs.List.{flat_map}
use Rattle.smith_syntax.specs.Signature.{named}
use Rattle.smith_print.proofs.Printing.{prints_then}
use Rattle.smith_print.proofs.values.print_signature.Goals as goal
use Rattle.smith_print.specs.Values.{field_text, maybe_text}

pub returns : goal.returns
returns c =
    let params = flat_map (field_text (codes " (param ")) (map named c.args.params.now) in
    let end = maybe_text (codes " (result ") c.args.ty (codes ")") ++ codes ")" in
    prints_then c.write-2.result c.args.out.now c.write.new.self c.write-2.new.self (codes "(func") (params ++ end) (c.in_ok-write.ensures {u = tt}).bytes
    (prints_then c.write-2.result c.write.new.self c.print_members.new.out c.write-2.new.self params end
    (c.in_ok-print_members.ensures {u = tt}
    ∙ ap (λ z. string_bytes c.write.new.self ++ z) (sym (flat_map-map (field_text (codes " (param ")) named c.args.params.now))) c.write-2.ensures.bytes)
