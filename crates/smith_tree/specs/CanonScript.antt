-- The input that canonical functions of a plan are read from. No lift defines its type.
use Rattle.std.specs.Prelude.{ℕ, List, [], ◌++◌, length, Option, Some, None, nat_eq, slice_get}
use Rattle.smith_format.specs.declared.config.Config.{Config}
use Rattle.smith_input.specs.Script.{pick, script_among, script_loop}
use Rattle.smith_syntax.specs.Entries.{Entry, defined, function, component_type, instance_type}
use Rattle.smith_syntax.specs.Places.{places}
use Rattle.smith_syntax.specs.HasSignature.{is_of_signature}
use Rattle.smith_tree.specs.Offers.{canon_items, scalar_functions}
use Rattle.smith_tree.specs.Tree.{Canon, lift, lower}
use Rattle.smith_tree.specs.Spaces.{Spaces, after_canon}
use Rattle.smith_tree.specs.contracts.choices.CanonItemPartialEq.TheImpl.{ghosts as equal}
use Rattle.smith_tree.specs.declared.choices.CanonItem.{CanonItem}
use Rattle.smith_tree.specs.declared.choices.CanonItem.TheVariants.{Lower, Lift}
use Rattle.smith_tree.specs.TypeScript.{script_lifted}

-- the signature of the type of that index, and a choice of the type among the types equal to it
abbrev pub script_lift : Config → Spaces → ℕ → Option Entry → List ℕ
script_lift config s t None = []
script_lift config s t (Some (defined d)) = []
script_lift config s t (Some (function signature)) = script_lifted config signature ++ script_among nat_eq (places (is_of_signature signature) 0 s.types) t
script_lift config s t (Some (component_type ds)) = []
script_lift config s t (Some (instance_type ds)) = []

-- the item that adds a canonical function
abbrev pub canon_item_of : Canon → CanonItem
canon_item_of (lift c t) = Lift
canon_item_of (lower f) = Lower

-- what follows the choice of the item
abbrev pub script_canon_rest : Config → Spaces → Canon → List ℕ
script_canon_rest config s (lift c t) = pick (length s.core_functions) c ++ script_lift config s t (slice_get s.types t)
script_canon_rest config s (lower f) = script_among nat_eq (scalar_functions s) f

abbrev pub script_canon : Config → Spaces → Canon → List ℕ
script_canon config s c = script_among equal.eq (canon_items s) (canon_item_of c) ++ script_canon_rest config s c

-- at most that many, after these spaces
abbrev pub script_canons : Config → ℕ → Spaces → List Canon → List ℕ
script_canons config max s cs = script_loop (script_canon config) after_canon 0 max 0 s cs
