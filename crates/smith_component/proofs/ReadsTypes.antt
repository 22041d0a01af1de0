-- What a type section reads: well formed types, as many as there must be, within the limits and their fuel, a tail of the bytes; and
-- what its script says.
use Rattle.std.proofs.Common.{◌≡◌, ℕ, suc, ◌+◌, ◌-◌, ◌<◌, ◌≤◌, ◌^◌, max, List, [], ◌∷◌, ◌++◌, length, fold, arith, refl, sym, ap, ◌∙◌, subst, length-append}
use Rattle.std.specs.List.{AllByRecursion}
use Rattle.smith_input.specs.Loops.{Along, after_all}
use Rattle.smith_input.specs.Reading.{IsTail}
use Rattle.smith_input.proofs.Loops.{loop_tail, loop_gives, loop_all, loop_enough, loop_same, loop_read}
use Rattle.smith_format.specs.declared.config.Config.{Config}
use Rattle.smith_syntax.specs.Entries.{Entry, plain}
use Rattle.smith_syntax.specs.Marked.{Marked, scope_in, scopes_in_marked}
use Rattle.smith_syntax.specs.Usable.{OfferedEntry}
use Rattle.smith_tree.specs.ReadableTypes.{IsReadableType}
use Rattle.smith_types.specs.Sayable.{Fit, IsSayable, Lasts}
use Rattle.smith_tree.specs.TypeScript.{script_type}
use Rattle.smith_syntax.specs.TypeLimits.{EntryLimits}
use Rattle.smith_syntax.specs.WellFormed.{FormedEntry, FormedTypes}
use Rattle.smith_tree.specs.Limits.{SmallTypes}
use Rattle.smith_tree.specs.Marking.{with_type_entry}
use Rattle.smith_tree.specs.Offered.{OfferedTypes}
use Rattle.smith_tree.specs.Tree.{most}
use Rattle.smith_tree.specs.TypeNeeds.{declaring, need}
use Rattle.smith_tree.specs.Script.{script_types}
use Rattle.smith_component.specs.AddedSections.{ReadsType, ReadsTypes}
use Rattle.smith_types.proofs.ReferencesRead.{IsFew}
use Rattle.smith_types.proofs.ScopedScript.{type_read}
use Rattle.smith_types.specs.Made.{MadeWith}
use Rattle.smith_types.proofs.MadeFits.{made_fits}
use Rattle.smith_types.proofs.MadeSame.{made_same}
use Rattle.smith_tree.proofs.TypeNeeds.{declared_within}

-- What a type that is read is, as a plain tree.
module _ {config : Config} {own : Marked} {outer : List Marked} {fuel : ℕ} {b rest : List ℕ} {e : Entry} (m : MadeWith config own outer fuel b e rest) where
  pub made_with_tail : IsTail rest b
  made_with_tail = (made_fits m.made).tail

  pub made_with_formed : FormedEntry e (scope_in own) (scopes_in_marked outer)
  made_with_formed = subst (λ x. FormedEntry x (scope_in own) (scopes_in_marked outer)) (sym m.shown) (made_fits m.made).is.0

  pub made_with_offered : OfferedEntry e own outer
  made_with_offered = subst (λ x. OfferedEntry x own outer) (sym m.shown) (made_fits m.made).is.1

  pub made_with_limits : EntryLimits config e
  made_with_limits = subst (EntryLimits config) (sym m.shown) (made_fits m.made).limits

  pub made_with_need : need e ≤ fuel
  made_with_need = omega (arith, ap need m.shown, (made_fits m.made).takes.enough)

  pub made_with_declared : length (own ∷ outer) + declaring e ≤ max (length (own ∷ outer)) config.max_nesting_depth
  made_with_declared = omega (arith, ap declaring m.shown, declared_within (plain m.full) config (length (own ∷ outer)) (made_fits m.made).nests)

  pub made_with_readable : IsReadableType config e
  made_with_readable = subst (IsReadableType config) (sym m.shown) (made_fits m.made).readable

  -- It is determined.
  pub made_with_same : {f : Entry} {other : List ℕ} → MadeWith config own outer fuel b f other → (e ≡ f) × (rest ≡ other)
  made_with_same n =
      let s = made_same m.made n.made in
      (m.shown ∙ (ap plain s.value ∙ sym n.shown), s.rest)

-- entries of which none has a greater number
most_below : (number : Entry → ℕ) (n : ℕ) (xs : List Entry) → AllByRecursion (λ x. number x ≤ n) xs → most number xs ≤ n
most_below number n [] h = omega arith
most_below number n (x ∷ xs) h = omega (arith, h.0, most_below number n xs h.1)

module _ (config : Config) (outer : List Marked) {min room : ℕ} {own next : Marked} {b rest : List ℕ} {xs : List Entry}
    (r : ReadsTypes config outer min room own b xs rest next) where
  pub types_read_formed : FormedTypes xs (scope_in own) (scopes_in_marked outer)
  types_read_formed = loop_gives (λ s ys t. FormedTypes ys (scope_in s) (scopes_in_marked outer)) (λ s. tt) (λ s c q t e. absurd e)
      (λ s t u c x q ys (made, e) f. (made_with_formed made, subst (λ z. FormedTypes ys (scope_in z) (scopes_in_marked outer)) e f)) 0 own b xs rest next r

  pub types_read_offered : OfferedTypes xs outer own
  types_read_offered = loop_gives (λ s ys t. OfferedTypes ys outer s) (λ s. tt) (λ s c q t e. absurd e)
      (λ s t u c x q ys (made, e) f. (made_with_offered made, subst (OfferedTypes ys outer) e f)) 0 own b xs rest next r

  pub types_read_small : SmallTypes config xs
  types_read_small = loop_all _ (λ s c x q t (made, e). made_with_need made) 0 own b xs rest next r

  pub types_read_limited : AllByRecursion (EntryLimits config) xs
  types_read_limited = loop_all _ (λ s c x q t (made, e). made_with_limits made) 0 own b xs rest next r

  -- how deep the types are that these declare
  pub types_read_declared : length outer + 1 + most declaring xs ≤ max (length outer + 1) config.max_nesting_depth
  types_read_declared =
      let deepest : ℕ = max (length outer + 1) config.max_nesting_depth - (length outer + 1) in
      let each : AllByRecursion (λ x. declaring x ≤ deepest) xs =
      loop_all _ (λ s c x q t (made, e). omega (arith, made_with_declared made)) 0 own b xs rest next r in
      omega (arith, most_below declaring deepest xs each)

  pub types_read_tail : IsTail rest b
  types_read_tail = loop_tail (λ s c q t e. absurd e) (λ s c x q t (made, e). made_with_tail made) 0 own b xs rest next r

  -- The scope has what was read.
  pub types_read_scope : next ≡ fold (with_type_entry outer) own xs
  types_read_scope = loop_gives (λ s ys t. t ≡ fold (with_type_entry outer) s ys) (λ s. refl) (λ s c q t e. absurd e)
      (λ s t u c x q ys (made, e) f. f ∙ ap (λ z. fold (with_type_entry outer) z ys) e) 0 own b xs rest next r

  -- There are no fewer than there must be.
  pub types_enough : min ≤ room → min ≤ length xs
  types_enough few = let n = loop_enough (λ s c q t e. absurd e) few 0 own b xs rest next r in omega (arith, n)

module _ (config : Config) (outer : List Marked) where
  -- They are determined.
  pub types_same : {min max : ℕ} {own next other : Marked} {b r s : List ℕ} {xs ys : List Entry} → ReadsTypes config outer min max own b xs r next
      → ReadsTypes config outer min max own b ys s other → (xs ≡ ys) × (r ≡ s)
  types_same {own = own} {next = next} {other = other} {b = b} {r = r} {s = s} {xs = xs} {ys = ys} x y =
      let d = loop_same (λ s c q p t u e f. absurd e) (λ s c x q p t u e i. e)
      (λ s c x y q p t u (made, e) (again, f). let m = made_with_same made again in (m.0, m.1, e ∙ (ap (with_type_entry outer s) m.0 ∙ sym f)))
      0 own b xs ys r s next other x y in
      (d.0, d.1)

  -- A type may be in a scope, and its script can say it.
  abbrev pub Said : Marked → Entry → Type 0
  Said s x =
      FormedEntry x (scope_in s) (scopes_in_marked outer) × OfferedEntry x s outer × EntryLimits config x
      × Lasts x config (suc (length outer)) config.max_type_size × IsReadableType config x × IsFew s

  pub all_said : (xs : List Entry) (own : Marked) → FormedTypes xs (scope_in own) (scopes_in_marked outer) → OfferedTypes xs outer own
      → AllByRecursion (EntryLimits config) xs → AllByRecursion (λ e. Lasts e config (suc (length outer)) config.max_type_size) xs
      → AllByRecursion (IsReadableType config) xs → length own.types + length own.core_types + length xs ≤ 2 ^ 64 → Along Said (with_type_entry outer) own xs
  all_said [] own f o m l r small = tt
  all_said (x ∷ xs) own f o m l r small = (
    (f.0, o.0, m.0, l.0, r.0, omega arith),
    all_said xs (with_type_entry outer own x) f.1 o.1 m.1 l.1 r.1 (omega (arith, length-append own.types (x ∷ []))),
  )

  pub sayable : AllByRecursion IsFew outer → suc (length outer) ≤ 1000 → config.max_name_length < 2 ^ 64 → (s : Marked) (x : Entry) → Said s x
      → IsSayable config s outer config.max_type_size x
  sayable around shallow short s x (formed, offered, limits, lasts, readable, small) =
      let fit : Fit (s ∷ outer) = record { many = omega (arith, shallow); each = (small, around) } in
      record { formed = formed; offered = offered; limits = limits; readable = readable; lasts = lasts; fit = fit; shallow = shallow; names = short }

  -- Their script is read as them.
  pub types_read : AllByRecursion IsFew outer → suc (length outer) ≤ 1000 → config.max_nesting_depth ≤ 1000 → config.max_name_length < 2 ^ 64
      → (xs : List Entry) (max : ℕ) (own : Marked) (rest : List ℕ) → FormedTypes xs (scope_in own) (scopes_in_marked outer) → OfferedTypes xs outer own
      → AllByRecursion (EntryLimits config) xs → AllByRecursion (λ e. Lasts e config (suc (length outer)) config.max_type_size) xs
      → AllByRecursion (IsReadableType config) xs → length xs ≤ max → length own.types + length own.core_types + length xs ≤ 2 ^ 64
      → ReadsTypes config outer 0 max own (script_types config max own outer xs ++ rest) xs rest (after_all (with_type_entry outer) own xs)
  types_read around shallow deep short xs max own rest f o m l r few small =
      loop_read (λ s e. script_type e config config.max_type_size s outer) (with_type_entry outer) Said one xs 0 own rest (all_said xs own f o m l r small)
      (omega arith) (omega arith)
    where
      one : (s : Marked) (x : Entry) (rest : List ℕ) → Said s x
          → ReadsType config outer s (script_type x config config.max_type_size s outer ++ rest) x rest (with_type_entry outer s x)
      one s x rest said = (type_read config short deep s outer config.max_type_size x rest (sayable around shallow short s x said), refl)
