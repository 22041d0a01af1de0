-- What filling produces, and builders that follow one another.
use Rattle.std.proofs.Common.{◌≡◌, ℕ, ◌-◌, ◌≤◌, List, [], ◌∷◌, ◌++◌, length, arith, ap, sym, ◌∙◌, inl, inr, append_assoc, length-append, Result}
use Rattle.std.proofs.Common.{IfErr, IfOk, Err, Ok}
use Rattle.std.proofs.lemmas.Result.{err_from_is_err_and}
use Rattle.std.specs.Result.{IsErrAnd}
use Rattle.smith_input.specs.declared.error.Error.{Error}
use Rattle.smith_format.specs.Consistency.{IsConsistent}
use Rattle.smith_format.specs.declared.config.Config.{Config}
use Rattle.smith_component.specs.Building.{Building, open_of}
use Rattle.smith_tree.specs.Limits.{Minima}
use Rattle.smith_tree.specs.Open.{Open, with_inner}
use Rattle.smith_component.specs.Shown.{shown_sections}
use Rattle.smith_component.specs.Steps.{AddsSections, ClosesSections, KeepsSections}
use Rattle.smith_tree.specs.Spaces.{spaces_of, types_of}
use Rattle.smith_tree.specs.Tree.{Tree, types, imports, imports_of}
use Rattle.smith_component.specs.Turn.{Closes, Next}
use Rattle.smith_component.specs.Fills.{Fills, FillsAll}
use Rattle.smith_component.specs.declared.builder.Step.{Step}
use Rattle.smith_component.specs.declared.builder.Step.TheVariants.{StillBuilding, Finished}
use Rattle.smith_component.specs.declared.component.Section.{Section}
use Rattle.smith_component.specs.declared.component.Section.TheVariants.{Component}
use Rattle.smith_component.specs.declared.item.Counted.TheVariants as counted
use Rattle.smith_component.proofs.ReadsCanons.{canons_grow}
use Rattle.smith_component.proofs.ReadsTypes.{types_enough}
use Rattle.smith_component.proofs.Growth.{imports_keep, spaces-add}

-- the exit of a refusal
pub refused : {T : Type 0} (r : Result T Error) (e : Error) (P : Error → Type 0) → IsErrAnd r (λ y. y ≡ e) → P e → IfErr r P
refused r e P h p = grind (arith, err_from_is_err_and)

-- what is true of what a result holds, by what is
pub ok_by : {T : Type 0} {P Q : T → Type 0} (r : Result T Error) → ((x : T) → P x → Q x) → IfOk r P → IfOk r Q
ok_by (Ok x) f h = f x h
ok_by (Err e) f h = tt

pub err_by : {T : Type 0} {P Q : Error → Type 0} (r : Result T Error) → ((e : Error) → P e → Q e) → IfErr r P → IfErr r Q
err_by (Ok x) f h = tt
err_by (Err e) f h = f e h

-- More sections, and more again.
pub adds_trans : {a b c : Building} → AddsSections a b → AddsSections b c → AddsSections a c
adds_trans {a} {b} {c} f g = grind (arith, append_assoc)

-- A fact of a builder with the same components around its inner one.
pub moved : (F : Config → Open → Type 0) (a b : Building) → b.config ≡ a.config → b.outer ≡ a.outer → F b.config (open_of b)
    → F a.config (with_inner (open_of a) (open_of b).inner)
moved F a b c o f = grind arith

-- Types that are filled are as many as they must be.
filled_types : (config : Config) (stack : Open) (b rest : List ℕ) (t : Tree) → IsConsistent config → Fills counted.Types config stack b t rest
    → config.min_types ≤ length (types_of t)
filled_types config stack b rest t consistent (inl (enough, same, left)) = omega (arith, enough, ap (λ u. length (types_of u)) same)
filled_types config stack b rest t consistent (inr (lacks, (xs, scope, reads, e))) = grind (arith, spaces-add, types_enough, length-append)

imports_types : (config : Config) (stack : Open) (b rest : List ℕ) (t : Tree) → Fills counted.Imports config stack b t rest → types_of t ≡ types_of stack.inner
imports_types config stack b rest t (inl (enough, same, left)) = ap types_of same
imports_types config stack b rest t (inr (lacks, (is, reads, e))) =
    ap types_of e ∙ (ap (λ s. s.types) (spaces-add stack.inner (imports is)) ∙ (imports_keep (spaces_of stack.inner) is).types)

functions_keep : (config : Config) (stack : Open) (b rest : List ℕ) (t : Tree) → Fills counted.Functions config stack b t rest
    → (imports_of t ≡ imports_of stack.inner) × (length (types_of stack.inner) ≤ length (types_of t))
functions_keep config stack b rest t (inl (enough, same, left)) = (ap imports_of same, omega (arith, ap (λ u. length (types_of u)) same))
functions_keep config stack b rest t (inr (lacks, (turns, next, reads, e))) = grind (arith, canons_grow)

-- What is filled has what it must have.
pub filled_minima : (config : Config) (stack : Open) (b rest : List ℕ) (full : Tree) → IsConsistent config → FillsAll config stack b full rest
    → Minima config full
filled_minima config stack b rest full consistent f =
    let h = filled_types config stack _ _ f.typed consistent f.types in
    let i = imports_types config (with_inner stack f.typed) _ _ f.imported f.imports in
    let k = functions_keep config (with_inner stack f.imported) _ _ full f.functions in
    record {
      types = omega (arith, h, ap length i, k.1);
      imports = omega (arith, f.enough_imports, ap length k.0);
      functions = f.enough_functions;
    }

more_in_front : (a b : Building) (f : AddsSections a b) (more : List Section) → b.inner ++ more ≡ a.inner ++ (f.more ++ more)
more_in_front a b f more = ap (λ ss. ss ++ more) f.inner ∙ append_assoc a.inner f.more more

-- A component that has more sections is closed.
pub closes_after : (a b : Building) (s : Step) → AddsSections a b → ClosesSections b s → KeepsSections a s
closes_after a b (StillBuilding new) f g = inr (inr (record {
  parent = g.parent;
  more = f.more ++ g.more;
  outer = sym f.outer ∙ g.outer;
  inner = g.inner ∙ ap (λ ss. g.parent ++ Component (shown_sections ss) ∷ []) (more_in_front a b f g.more);
}))
closes_after a b (Finished c) f g = (sym f.outer ∙ g.0, f.more ++ g.1, g.2 ∙ ap shown_sections (more_in_front a b f g.1))

-- The same components are around it.
pub closes_filled : (a b : Building) (n : Next) → b.outer ≡ a.outer → Closes (open_of b) n → Closes (with_inner (open_of a) (open_of b).inner) n
closes_filled a b n e h = grind arith
