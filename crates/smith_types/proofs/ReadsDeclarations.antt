-- Imports, exports and outer aliases that are read: they leave a tail of the bytes, name what is there, and are determined.
use Rattle.std.proofs.Common.{◌≡◌, inl, inr, ℕ, ◌+◌, Bool, true, false, List, ◌∷◌, ◌++◌, codes, length, refl, sym, ap, ◌∙◌, subst, arith}
use Rattle.std.proofs.lemmas.Bool.{false≢true, ltb-true}
use Rattle.std.proofs.lemmas.Option.{slice_get_within, slice_get-map}
use Rattle.std.specs.Prelude.{Option, Some, None, option_map, slice_get}
use Rattle.smith_input.specs.Choices.{ReadsAmong}
use Rattle.smith_input.specs.Names.{ReadsNew}
use Rattle.smith_input.specs.Reading.{IsTail}
use Rattle.smith_input.proofs.Choices.{among_none, among_tail, among_same}
use Rattle.smith_input.proofs.NewNames.{new_tail, new_unique}
use Rattle.smith_input.proofs.Offered.{offer_holds}
use Rattle.smith_input.proofs.Reading.{tail_same, tail_trans, reads_tail, reads_unique, flips_unique}
use Rattle.smith_format.specs.declared.config.Config.{Config}
use Rattle.smith_syntax.specs.Entries.{CoreEntry, Entry, Kept, FullDecl, plain_decl, type_alias, core_type_alias, import_decl, export_decl}
use Rattle.smith_syntax.specs.Entries.{keeps_type, keeps_core_type}
use Rattle.smith_syntax.specs.Marked.{Marked, scope_in, scopes_in_marked}
use Rattle.smith_syntax.specs.Scope.{Scope, in_scope}
use Rattle.smith_syntax.specs.Usable.{OfferedDecl}
use Rattle.smith_syntax.specs.WellFormed.{FormedDeclaration}
use Rattle.smith_syntax.specs.declared.deftype.ComponentTypeRef.{ComponentTypeRef}
use Rattle.smith_types.specs.Declarations.{NamedExtern, ReadsMaybeUrl, no_url, a_url, url_names, ReadsNamedExtern, ReadsAlias, NoImportDecl, in_instance}
use Rattle.smith_types.specs.Declarations.{nothing_there, not_asked, none_fits, ReadsImportDecl, ReadsExportDecl}
use Rattle.smith_tree.specs.TypeOffers.{numbered, occupied, aliases_of, declaration_offers, declaration_items, ref_places}
use Rattle.smith_types.specs.MakingTypes.{HasTarget, IsAliased}
use Rattle.smith_types.specs.References.{ref_to, ReadsRef}
use Rattle.smith_tree.specs.declared.choices.DeclarationItem.{DeclarationItem}
use Rattle.smith_tree.specs.declared.choices.RefKind.{RefKind}
use Rattle.smith_tree.specs.declared.totals.RefTotals.{RefTotals}
use Rattle.smith_scope.proofs.Places.{get_either, get_left, get_right}
use Rattle.smith_tree.proofs.Aliases.{length-numbered, numbered_here, numbered_stands}
use Rattle.smith_types.proofs.References.{import_not_equal, ref_is}

-- tails

pub ref_tail : (config : Config) (own : Marked) (totals : RefTotals) (for_import for_type_def : Bool) (b : List ℕ) (r : ComponentTypeRef) (rest : List ℕ)
    → ReadsRef config own totals for_import for_type_def b r rest → IsTail rest b
ref_tail config own totals for_import for_type_def b r rest h = tail_trans (among_tail h.names) (among_tail h.choice)

maybe_url_tail : {config : Config} → (used : List (List ℕ)) (b : List ℕ) (u : Option (List ℕ)) (rest : List ℕ) → ReadsMaybeUrl config used b u rest
    → IsTail rest b
maybe_url_tail used b u rest (no_url f) = (1, f.left)
maybe_url_tail used b u rest (a_url f n e) = tail_trans (new_tail n) (1, f.left)

pub extern_tail : {config : Config} → (so_far : List NamedExtern) (b : List ℕ) (x : NamedExtern) (rest : List ℕ) → ReadsNamedExtern config so_far b x rest
    → IsTail rest b
extern_tail so_far b x rest r = tail_trans (maybe_url_tail (url_names so_far) r.mid x.1 rest r.url) (new_tail r.name)

pub alias_tail : (scopes : List Marked) (b : List ℕ) (d : FullDecl) (rest : List ℕ) → ReadsAlias scopes b d rest → IsTail rest b
alias_tail scopes b d rest r = tail_trans (among_tail r.names) (among_tail r.choice)

module _ (config : Config) (own : Marked) where
  pub import_tail : (imports : List NamedExtern) (b : List ℕ) (d : FullDecl) (rest : List ℕ) → ReadsImportDecl config own imports b d rest → IsTail rest b
  import_tail imports b d rest r = tail_trans (extern_tail imports r.low r.named rest r.name)
      (tail_trans (ref_tail config own _ true true r.mid r.to r.low r.of) (reads_tail r.asked))

  pub export_tail : (exports : List NamedExtern) (b : List ℕ) (d : FullDecl) (rest : List ℕ) → ReadsExportDecl config own exports b d rest → IsTail rest b
  export_tail exports b d rest r = tail_trans (extern_tail exports r.mid r.named rest r.name) (ref_tail config own _ false true b r.to r.mid r.of)

  pub no_import_tail : (importing : Bool) (b rest : List ℕ) → NoImportDecl config importing own b rest → IsTail rest b
  no_import_tail importing b rest (in_instance e) = tail_same b
  no_import_tail importing b rest (nothing_there e f) = tail_same b
  no_import_tail importing b rest (not_asked e f r k) = reads_tail r
  no_import_tail importing b rest (none_fits e f r n) = reads_tail r

-- A declaration has what it needs.
pub item_offered : (config : Config) (outer : List Marked) (own : Marked) (k : ℕ) (i : DeclarationItem)
    → slice_get (declaration_items config outer own) k ≡ Some i → HasTarget config own outer i
item_offered config outer own k i e =
    offer_holds (HasTarget config own outer) (declaration_offers config outer own) (
      λ t. t,
      (
        ltb-true 0 (length (occupied (own ∷ outer))),
        (
          λ t. tt,
          (
            ltb-true (length (own ∷ outer)) config.max_nesting_depth,
            tt,
          ),
        ),
      ),
    ) k i e

-- well formed

-- what is in a scope of that count
pub named_in : {A : Type 0} (of : Scope → List A) (scopes : List Marked) (count i : ℕ) (s : Marked) (x : A) → slice_get scopes count ≡ Some s
    → slice_get (of (scope_in s)) i ≡ Some x
    → in_scope of (scopes_in_marked scopes) count i ≡ Some x
named_in of scopes count i s x e f =
    let there = slice_get-map scope_in scopes count ∙ ap (option_map scope_in) e in
    ap (λ o. elim o [ None ↦ None | Some t ↦ slice_get (of t) i ]) there ∙ f

-- what an outer alias is of, by where it is

pub alias_type_at : (count : ℕ) (s : Marked) (i : ℕ) (e : Entry) → slice_get s.types i ≡ Some e
    → slice_get (aliases_of count s) i ≡ Some (type_alias count i (keeps_type e))
alias_type_at count s i e h =
    let f : ℕ → Entry → FullDecl = λ j x. type_alias count j (keeps_type x) in
    let g : ℕ → CoreEntry → FullDecl = λ j x. core_type_alias count j (keeps_core_type x) in
    let front : List FullDecl = numbered f 0 s.types in
    let here : slice_get front i ≡ Some (f i e) = numbered_here f s.types i e h in
    get_left front (numbered g 0 s.core_types) i (slice_get_within front i (f i e) here) ∙ here

pub alias_core_type_at : (count : ℕ) (s : Marked) (i : ℕ) (e : CoreEntry) → slice_get s.core_types i ≡ Some e
    → slice_get (aliases_of count s) (length s.types + i) ≡ Some (core_type_alias count i (keeps_core_type e))
alias_core_type_at count s i e h =
    let f : ℕ → Entry → FullDecl = λ j x. type_alias count j (keeps_type x) in
    let g : ℕ → CoreEntry → FullDecl = λ j x. core_type_alias count j (keeps_core_type x) in
    let front : List FullDecl = numbered f 0 s.types in
    get_right front (numbered g 0 s.core_types) (length s.types + i) i (omega (arith, length-numbered f 0 s.types)) ∙ numbered_here g s.core_types i e h

-- A declaration as it is judged: it is well formed, and what it names was offered.
abbrev pub IsDeclaration : FullDecl → Marked → List Marked → Type 0
IsDeclaration d own outer = FormedDeclaration (plain_decl d) (scope_in own) (scopes_in_marked outer) × OfferedDecl (plain_decl d) outer own

-- An outer alias keeps what it names.
pub alias_kept : (scopes : List Marked) (b : List ℕ) (d : FullDecl) (rest : List ℕ) → ReadsAlias scopes b d rest → IsAliased scopes d
alias_kept scopes b d rest r =
    elim (get_either (numbered (λ i e. type_alias r.count i (keeps_type e)) 0 r.scope.types)
    (numbered (λ i e. core_type_alias r.count i (keeps_core_type e)) 0 r.scope.core_types) r.names.place d r.names.named) [
      | inl p ↦ (let t = numbered_stands (λ i e. type_alias r.count i (keeps_type e)) r.scope.types p.0 d p.1 in
          subst (λ z. IsAliased scopes z) (sym t.2)
          (t.0, refl, named_in (λ s. s.types) scopes r.count p.0 r.scope t.0 r.stands t.1))
      | inr p ↦ (let t = numbered_stands (λ i e. core_type_alias r.count i (keeps_core_type e)) r.scope.core_types p.0 d p.1 in
          subst (λ z. IsAliased scopes z) (sym t.2)
          (t.0, refl, named_in (λ s. s.core_types) scopes r.count p.0 r.scope t.0 r.stands t.1))
    ]

aliased_is : (own : Marked) (outer : List Marked) (d : FullDecl) → IsAliased (own ∷ outer) d → IsDeclaration d own outer
aliased_is own outer (type_alias count i k) (e, is, named) = ((e, named), tt)
aliased_is own outer (core_type_alias count i k) (e, is, named) = ((e, named), tt)
aliased_is own outer d kept = absurd kept

pub alias_is : (own : Marked) (outer : List Marked) (b : List ℕ) (d : FullDecl) (rest : List ℕ) → ReadsAlias (own ∷ outer) b d rest
    → IsDeclaration d own outer
alias_is own outer b d rest r = aliased_is own outer d (alias_kept (own ∷ outer) b d rest r)

module _ (config : Config) (own : Marked) (outer : List Marked) where
  pub import_is : (imports : List NamedExtern) (b : List ℕ) (d : FullDecl) (rest : List ℕ) → ReadsImportDecl config own imports b d rest
      → IsDeclaration d own outer
  import_is imports b d rest r =
      let of = ref_is config own _ true true r.mid r.to r.low r.of in
      subst (λ z. IsDeclaration z own outer) (sym r.is) ((of.0, import_not_equal config own _ true r.mid r.to r.low r.of), of.1)

  pub export_is : (exports : List NamedExtern) (b : List ℕ) (d : FullDecl) (rest : List ℕ) → ReadsExportDecl config own exports b d rest
      → IsDeclaration d own outer
  export_is exports b d rest r = subst (λ z. IsDeclaration z own outer) (sym r.is) (ref_is config own _ false true b r.to r.mid r.of)

-- what holds of all outer aliases
pub alias_holds : (P : FullDecl → Type 0) → ((count i : ℕ) (k : Kept) → P (type_alias count i k)) → ((count i : ℕ) (k : Kept) → P (core_type_alias count i k))
    → (scopes : List Marked) (b : List ℕ) (d : FullDecl) (rest : List ℕ) → ReadsAlias scopes b d rest → P d
alias_holds P types core_types scopes b d rest r = by d (alias_kept scopes b d rest r)
  where
    by : (d : FullDecl) → IsAliased scopes d → P d
    by (type_alias count i k) kept = types count i k
    by (core_type_alias count i k) kept = core_types count i k
    by d kept = absurd kept

-- determined

pub ref_same : (config : Config) (own : Marked) (totals : RefTotals) (for_import for_type_def : Bool) (b : List ℕ) (x y : ComponentTypeRef) (r s : List ℕ)
    → ReadsRef config own totals for_import for_type_def b x r → ReadsRef config own totals for_import for_type_def b y s → (x ≡ y) × (r ≡ s)
ref_same config own totals for_import for_type_def b x y r s p q =
    let u = among_same p.choice q.choice in
    let P : RefKind → Type 0 = λ z. ReadsAmong (ref_places own for_import z) p.mid p.index r in
    let Q : List ℕ → Type 0 = λ z. ReadsAmong (ref_places own for_import q.kind) z p.index r in
    let v = among_same (subst Q u.1 (subst P u.0 p.names)) q.names in
    (p.is ∙ (λ i. ref_to (u.0 i) (v.0 i)) ∙ sym q.is, v.1)

url_same : {config : Config} → (used : List (List ℕ)) (b : List ℕ) (u v : Option (List ℕ)) (r s : List ℕ) → ReadsMaybeUrl config used b u r
    → ReadsMaybeUrl config used b v s → (u ≡ v) × (r ≡ s)
url_same used b u v r s (no_url f) (no_url g) = (refl, (flips_unique f g).1)
url_same used b u v r s (no_url f) (a_url g n e) = absurd (let z : false ≡ true = (flips_unique f g).0 in cc)
url_same used b u v r s (a_url g n e) (no_url f) = absurd (let z : true ≡ false = (flips_unique g f).0 in cc)
url_same {config} used b u v r s (a_url {name = a} f n e) (a_url {name = c} g m h) =
    let P : List ℕ → Type 0 = λ z. ReadsNew config.max_name_length used z a r in
    let w = new_unique (subst P (flips_unique f g).1 n) m in
    (e ∙ ap (λ t. Some (codes "https://example.com/" ++ t)) w.0 ∙ sym h, w.1)

pub extern_same : {config : Config} → (so_far : List NamedExtern) (b : List ℕ) (x y : NamedExtern) (r s : List ℕ) → ReadsNamedExtern config so_far b x r
    → ReadsNamedExtern config so_far b y s
    → (x ≡ y) × (r ≡ s)
extern_same {config} so_far b x y r s p q =
    let n = new_unique p.name q.name in
    let u = url_same (url_names so_far) q.mid x.1 y.1 r s (subst (λ z. ReadsMaybeUrl config (url_names so_far) z x.1 r) n.1 p.url) q.url in
    (λ i. (n.0 i, u.0 i), u.1)

pub alias_same : (scopes : List Marked) (b : List ℕ) (d e : FullDecl) (r s : List ℕ) → ReadsAlias scopes b d r → ReadsAlias scopes b e s → (d ≡ e) × (r ≡ s)
alias_same scopes b d e r s p q =
    let u = among_same p.choice q.choice in
    let found : Some p.scope ≡ Some q.scope = sym p.stands ∙ (ap (slice_get scopes) u.0 ∙ q.stands) in
    let scope : p.scope ≡ q.scope = cc in
    let P : ℕ → Type 0 = λ z. ReadsAmong (aliases_of z p.scope) p.mid d r in
    let Q : Marked → Type 0 = λ z. ReadsAmong (aliases_of q.count z) p.mid d r in
    let R : List ℕ → Type 0 = λ z. ReadsAmong (aliases_of q.count q.scope) z d r in
    among_same (subst R u.1 (subst Q scope (subst P u.0 p.names))) q.names

module _ (config : Config) (own : Marked) where
  pub import_same : (imports : List NamedExtern) (b : List ℕ) (d e : FullDecl) (r s : List ℕ) → ReadsImportDecl config own imports b d r
      → ReadsImportDecl config own imports b e s → (d ≡ e) × (r ≡ s)
  import_same imports b d e r s p q =
      let a = (reads_unique p.asked q.asked).1 in
      let o = ref_same config own _ true true q.mid p.to q.to p.low q.low (subst (λ z. ReadsRef config own _ true true z p.to p.low) a p.of) q.of in
      let n = extern_same imports q.low p.named q.named r s (subst (λ z. ReadsNamedExtern config imports z p.named r) o.1 p.name) q.name in
      (p.is ∙ (λ i. import_decl (n.0 i).0 (n.0 i).1 (o.0 i)) ∙ sym q.is, n.1)

  pub export_same : (exports : List NamedExtern) (b : List ℕ) (d e : FullDecl) (r s : List ℕ) → ReadsExportDecl config own exports b d r
      → ReadsExportDecl config own exports b e s → (d ≡ e) × (r ≡ s)
  export_same exports b d e r s p q =
      let o = ref_same config own _ false true b p.to q.to p.mid q.mid p.of q.of in
      let n = extern_same exports q.mid p.named q.named r s (subst (λ z. ReadsNamedExtern config exports z p.named r) o.1 p.name) q.name in
      (p.is ∙ (λ i. export_decl (n.0 i).0 (n.0 i).1 (o.0 i)) ∙ sym q.is, n.1)

  pub no_import_same : (importing : Bool) (b r s : List ℕ) → NoImportDecl config importing own b r → NoImportDecl config importing own b s → r ≡ s
  no_import_same importing b r s (in_instance e) (in_instance f) = refl
  no_import_same importing b r s (in_instance e) (nothing_there f t) = refl
  no_import_same importing b r s (in_instance e) (not_asked f t c k) = absurd (false≢true (sym e ∙ f))
  no_import_same importing b r s (in_instance e) (none_fits f t c n) = absurd (false≢true (sym e ∙ f))
  no_import_same importing b r s (nothing_there e t) (in_instance f) = refl
  no_import_same importing b r s (nothing_there e t) (nothing_there f u) = refl
  no_import_same importing b r s (nothing_there e t) (not_asked f u c k) = absurd (false≢true (sym t ∙ u))
  no_import_same importing b r s (nothing_there e t) (none_fits f u c n) = absurd (false≢true (sym t ∙ u))
  no_import_same importing b r s (not_asked f t c k) (in_instance e) = absurd (false≢true (sym e ∙ f))
  no_import_same importing b r s (not_asked f u c k) (nothing_there e t) = absurd (false≢true (sym t ∙ u))
  no_import_same importing b r s (not_asked f u c k) (not_asked e t a l) = (reads_unique c a).1
  no_import_same importing b r s (not_asked f u c k) (none_fits e t a n) = absurd (omega (arith, k, (reads_unique c a).0))
  no_import_same importing b r s (none_fits f t c n) (in_instance e) = absurd (false≢true (sym e ∙ f))
  no_import_same importing b r s (none_fits f u c n) (nothing_there e t) = absurd (false≢true (sym t ∙ u))
  no_import_same importing b r s (none_fits e t a n) (not_asked f u c k) = absurd (omega (arith, k, (reads_unique c a).0))
  no_import_same importing b r s (none_fits e t a n) (none_fits f u c m) = (reads_unique a c).1

  -- An import is declared, or none is.
  pub import_or_none : (importing : Bool) (imports : List NamedExtern) (b r s : List ℕ) (d : FullDecl) → importing ≡ true
      → ReadsImportDecl config own imports b d r
      → NoImportDecl config importing own b s → ⊥
  import_or_none importing imports b r s d e p (in_instance f) = false≢true (sym f ∙ e)
  import_or_none importing imports b r s d e p (nothing_there f t) = false≢true (sym t ∙ p.there)
  import_or_none importing imports b r s d e p (not_asked f t c k) = omega (arith, k, (reads_unique c p.asked).0)
  import_or_none importing imports b r s d e p (none_fits f t c n) = among_none n p.of.choice
