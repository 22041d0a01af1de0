-- Members that are seen otherwise, as a script spells them.
use Rattle.std.proofs.Common.{◌≡◌, ℕ, ◌+◌, List, [], ◌∷◌, ◌++◌, map, refl, ap, sym, ◌∙◌}
use Rattle.std.specs.Option.{option_to_list}
use Rattle.std.specs.Prelude.{Option, String}
use Rattle.std.specs.declared.alloc.Global.{Global}
use Rattle.smith_input.specs.Script.{script_loop, script_more}
use Rattle.smith_format.specs.declared.config.Config.{Config}
use Rattle.smith_syntax.specs.Entries.{Signature}
use Rattle.smith_syntax.specs.Marked.{Marked}
use Rattle.smith_syntax.specs.Signature.{named, signature}
use Rattle.smith_syntax.specs.declared.types.ComponentValType.{ComponentValType}
use Rattle.smith_tree.specs.TypeScript.{script_field, script_members, script_signature, script_val}

module _ {A B : Type 0} (f : ℕ → B → List ℕ) (g : A → B) (min max : ℕ) where
  turns_map : (done count : ℕ) (xs : List A)
      → script_loop f (λ n x. n + 1) min max done count (map g xs) ≡ script_loop (λ n x. f n (g x)) (λ n x. n + 1) min max done count xs
  turns_map done count [] = refl
  turns_map done count (x ∷ xs) = ap (λ t. script_more min done ++ f count (g x) ++ t) (turns_map (done + 1) (count + 1) xs)

  -- members that are seen otherwise
  pub members_map : (xs : List A) → script_members f min max (map g xs) ≡ script_members (λ n x. f n (g x)) min max xs
  members_map xs = turns_map 0 0 xs

-- a function type over the program's fields
pub signature_is : (config : Config) (own : Marked) (v : Signature) (ps : List (String Global × ComponentValType)) (r : Option ComponentValType)
    → signature ps r ≡ v
    → script_signature config own v ≡ script_members (λ n p. script_field config own n (named p)) 0 16 ps
    ++ script_members (λ n v. script_val own v) 0 1 (option_to_list r)
signature_is config own v ps r e =
    ap (script_signature config own) (sym e)
    ∙ ap (λ t. t ++ script_members (λ n v. script_val own v) 0 1 (option_to_list r)) (members_map (script_field config own) named 0 16 ps)
