-- Loops of declarations, turn by turn.
use Rattle.std.proofs.Common.{◌≡◌, ℕ, ◌+◌, ◌-◌, ◌<◌, ◌≤◌, Bool, true, false, List, [], ◌∷◌, ◌++◌, length, map, refl, sym, ap, ◌∙◌, subst, arith}
use Rattle.std.proofs.lemmas.List.{length-append, map-append}
use Rattle.smith_format.specs.declared.config.Config.{Config}
use Rattle.smith_input.specs.Reading.{More}
use Rattle.smith_input.proofs.Reading.{more_full}
use Rattle.smith_syntax.specs.Entries.{FullDecl, FullDecls, in_order, no_decls, then_decls, core_type_decl, type_decl, type_alias, core_type_alias, import_decl}
use Rattle.smith_syntax.specs.Entries.{export_decl}
use Rattle.smith_syntax.specs.Marked.{Marked, marked_after, marked_after_all, scope_in, scopes_in_marked}
use Rattle.smith_syntax.specs.Scope.{type_named, core_type_named, exported_type}
use Rattle.smith_syntax.specs.WellFormed.{import_of, export_of}
use Rattle.smith_types.specs.Declarations.{SoFar, nothing_so_far, after_one}
use Rattle.smith_types.specs.Made.{MadeDeclaration, MadeDeclarations, no_more_decls, spent_decls, one_decl}
use Rattle.smith_types.specs.MakingTypes.{AddsDeclaration, Declares, DeclaresAll, HasAtMost, HoldsExterns, HoldsNames, Progress, onto, defs_in}
use Rattle.smith_scopes.specs.Scopes.{Contents, own_marked, outer_marked}
use Rattle.smith_types.specs.declared.make.scoped.ComponentBody.{ComponentBody}
use Rattle.smith_types.specs.declared.make.scoped.InstanceBody.{InstanceBody}
use Rattle.smith_types.specs.declared.make.scoped.TypeBody.{TypeBody}
use Rattle.smith_types.specs.declared.make.scoped.TypeBody.TheVariants.{Component, Instance}
use Rattle.smith_syntax.specs.ShownDecls.{full_component_decl, full_instance_decl}
use Rattle.smith_syntax.specs.declared.deftype.ComponentTypeDef.{ComponentTypeDef}
use Rattle.smith_syntax.specs.declared.deftype.InstanceTypeDecl.{InstanceTypeDecl}
use Rattle.smith_input.proofs.Lists.{one_at_most}

pub onto_none : (ds : List FullDecl) → onto ds no_decls ≡ in_order ds
onto_none [] = refl
onto_none (d ∷ ds) = ap (then_decls d) (onto_none ds)

onto_more : (ds : List FullDecl) (d : FullDecl) (more : FullDecls) → onto (ds ++ d ∷ []) more ≡ onto ds (then_decls d more)
onto_more [] d more = refl
onto_more (x ∷ ds) d more = ap (then_decls x) (onto_more ds d more)

after_more : (outer : List Marked) (ds : List FullDecl) (d : FullDecl) (own : Marked)
    → marked_after_all (in_order (ds ++ d ∷ [])) outer own ≡ marked_after d outer (marked_after_all (in_order ds) outer own)
after_more outer [] d own = refl
after_more outer (x ∷ ds) d own = after_more outer ds d (marked_after x outer own)

-- a declaration adds one type at most, and one core type at most

grows : {A : Type 0} (xs ys : List A) (n : ℕ) → length xs ≤ n → length ys ≤ 1 → length (xs ++ ys) ≤ n + 1
grows xs ys n h g = let l = length-append xs ys in omega (arith, l, h, g)

pub few_after : (outer : List Marked) (own : Marked) (d : FullDecl) (n : ℕ) → HasAtMost n own → HasAtMost (n + 1) (marked_after d outer own)
few_after outer own (core_type_decl t k) n h = record {
  types = omega (arith, h.types);
  core_types = grows own.core_types (t ∷ []) n h.core_types (omega arith);
}
few_after outer own (type_decl e) n h = record { types = grows own.types _ n h.types (omega arith); core_types = omega (arith, h.core_types) }
few_after outer own (type_alias count i k) n h = record {
  types = grows own.types _ n h.types (one_at_most (type_named (scopes_in_marked (own ∷ outer)) count i));
  core_types = omega (arith, h.core_types);
}
few_after outer own (core_type_alias count i k) n h = record {
  types = omega (arith, h.types);
  core_types = grows own.core_types _ n h.core_types (one_at_most (core_type_named (scopes_in_marked (own ∷ outer)) count i));
}
few_after outer own (import_decl name m r) n h = record { types = omega (arith, h.types); core_types = omega (arith, h.core_types) }
few_after outer own (export_decl name m r) n h = record {
  types = grows own.types _ n h.types (one_at_most (exported_type (scope_in own) r));
  core_types = omega (arith, h.core_types);
}

module _ {config : Config} {importing : Bool} {outer : List Marked} {start : List ℕ} {first_fuel : ℕ} where
  module _ {done : ℕ} {scopes : List Contents} {declared : TypeBody} {bytes : List ℕ} {fuel : ℕ}
      (p : Progress config importing outer start first_fuel done scopes declared bytes fuel) where
    abbrev All : FullDecls → List ℕ → ℕ → Type 0
    All ds rest left = MadeDeclarations config importing outer 0 (nothing_so_far outer) start first_fuel ds rest left

    abbrev Whole : List ℕ → ℕ → Type 0
    Whole rest left = DeclaresAll config importing outer start first_fuel declared (own_marked scopes) rest left

    ends : (rest : List ℕ) (left : ℕ) → MadeDeclarations config importing outer done p.so_far bytes fuel no_decls rest left → Whole rest left
    ends rest left last = record {
      made = subst (λ ds. All ds rest left) (onto_none (defs_in declared)) (p.onward no_decls rest left last);
      closed = p.own_is ∙ p.closed;
      of = p.of;
    }

    pub stops : (rest : List ℕ) (answer : Bool) → More config.loop_bits done 0 100 bytes answer rest → answer ≡ false → Whole rest fuel
    stops rest answer m e = ends rest fuel (no_more_decls (subst (λ a. More config.loop_bits done 0 100 bytes a rest) e m) refl)

    pub spends : (rest : List ℕ) (answer : Bool) (left : ℕ) → More config.loop_bits done 0 100 bytes answer rest → answer ≡ true → left ≡ fuel - 1 → left ≡ 0
        → Whole rest left
    spends rest answer left m e burnt none = ends rest left
        (spent_decls (subst (λ a. More config.loop_bits done 0 100 bytes a rest) e m) (sym burnt ∙ none) none)

    pub is_full : 100 ≤ done → Whole bytes fuel
    is_full h = stops bytes false (more_full bytes h) refl

    pub goes_on : (mid low : List ℕ) (answer : Bool) (held left : ℕ) (next : List Contents) (declared2 : TypeBody)
        → More config.loop_bits done 0 100 bytes answer mid
        → answer ≡ true → held ≡ fuel - 1 → 0 < held → AddsDeclaration config scopes next p.so_far declared declared2 mid held low left
        → Progress config importing outer start first_fuel (done + 1) next declared2 low left
    goes_on mid low answer held left next declared2 m e burnt lasts a = record {
      so_far = after_one outer p.so_far a.added;
      of = a.of ∙ p.of;
      own_is = a.declares.own ∙ (ap (λ o. marked_after a.added o (own_marked scopes)) p.outer_is ∙ ap (λ s. marked_after a.added outer s) p.own_is);
      outer_is = a.declares.outer ∙ p.outer_is;
      names = subst (λ o. HoldsNames declared2 (after_one o p.so_far a.added)) p.outer_is a.names;
      closed = ap (λ s. marked_after a.added outer s) p.closed
          ∙ sym (ap (λ xs. marked_after_all (in_order xs) outer (nothing_so_far outer).own) a.defs
          ∙ after_more outer (defs_in declared) a.added (nothing_so_far outer).own);
      few = few_after outer p.so_far.own a.added done p.few;
      onward = λ ds rest rest_fuel loop.
          let here : MadeDeclaration config importing outer p.so_far mid (fuel - 1) a.added low left =
          subst (λ n. MadeDeclaration config importing outer p.so_far mid n a.added low left) burnt
          (subst (λ o. MadeDeclaration config importing o p.so_far mid held a.added low left) p.outer_is
          (subst (λ b. MadeDeclaration config b (outer_marked scopes) p.so_far mid held a.added low left) p.of a.made)) in
          let whole = p.onward (then_decls a.added ds) rest rest_fuel
          (one_decl (subst (λ b. More config.loop_bits done 0 100 bytes b mid) e m) (omega (arith, burnt, lasts)) here loop) in
          subst (λ all. All all rest rest_fuel) (sym (ap (λ xs. onto xs ds) a.defs ∙ onto_more (defs_in declared) a.added ds)) whole;
    }

-- One declaration was added to the declarations of a component type, or of an instance type.
pub adds_to_component : (config : Config) (scopes next : List Contents) (s : SoFar) (old new : ComponentBody)
    (def : ComponentTypeDef) (b : List ℕ) (fuel : ℕ) (rest : List ℕ) (left : ℕ) → own_marked scopes ≡ s.own
    → MadeDeclaration config true (outer_marked scopes) (record { own = own_marked scopes; imports = s.imports; exports = s.exports }) b fuel
    (full_component_decl def) rest left
    → Declares scopes next (full_component_decl def) → HoldsExterns new.names.imports (s.imports ++ import_of (full_component_decl def))
    → HoldsExterns new.names.exports (s.exports ++ export_of (full_component_decl def)) → new.defs.items ≡ old.defs.items ++ def ∷ []
    → AddsDeclaration config scopes next s (Component old) (Component new) b fuel rest left
adds_to_component config scopes next s old new def b fuel rest left own made declares i x more = record {
  added = full_component_decl def;
  made = subst (λ o. MadeDeclaration config true (outer_marked scopes) (record { own = o; imports = s.imports; exports = s.exports }) b fuel
      (full_component_decl def) rest left) own made;
  declares = declares;
  names = (i, x);
  defs = ap (map full_component_decl) more ∙ map-append full_component_decl old.defs.items (def ∷ []);
  of = refl;
}

pub adds_to_instance : (config : Config) (scopes next : List Contents) (s : SoFar) (old new : InstanceBody)
    (decl : InstanceTypeDecl) (b : List ℕ) (fuel : ℕ) (rest : List ℕ) (left : ℕ) → own_marked scopes ≡ s.own
    → MadeDeclaration config false (outer_marked scopes) (record { own = own_marked scopes; imports = s.imports; exports = s.exports }) b fuel
    (full_instance_decl decl) rest left
    → Declares scopes next (full_instance_decl decl) → HoldsExterns new.exports (s.exports ++ export_of (full_instance_decl decl))
    → new.defs.items ≡ old.defs.items ++ decl ∷ []
    → AddsDeclaration config scopes next s (Instance old) (Instance new) b fuel rest left
adds_to_instance config scopes next s old new decl b fuel rest left own made declares x more = record {
  added = full_instance_decl decl;
  made = subst (λ o. MadeDeclaration config false (outer_marked scopes) (record { own = o; imports = s.imports; exports = s.exports }) b fuel
      (full_instance_decl decl) rest left) own made;
  declares = declares;
  names = x;
  defs = ap (map full_instance_decl) more ∙ map-append full_instance_decl old.defs.items (decl ∷ []);
  of = refl;
}
