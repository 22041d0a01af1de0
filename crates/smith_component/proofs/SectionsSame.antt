-- The bytes decide what a section has, except for the URLs of imports, and what it leaves.
use Rattle.std.proofs.Common.{◌≡◌, ℕ, true, false, List, [], ◌∷◌, ◌++◌, sym, ap, ◌∙◌, subst, Option, length, arith, Some}
use Rattle.smith_input.proofs.Choices.{among_none, among_same}
use Rattle.smith_input.specs.Names.{ReadsNew}
use Rattle.smith_input.proofs.Kebab.{kebab_unique}
use Rattle.smith_input.proofs.Loops.{loop_same}
use Rattle.smith_input.proofs.NewNames.{new_unique}
use Rattle.smith_input.proofs.Reading.{flips_unique, reads_unique}
use Rattle.smith_format.specs.declared.config.Config.{Config}
use Rattle.smith_syntax.specs.Entries.{ImportEntry, Signature, function}
use Rattle.smith_types.specs.Declarations.{ReadsMaybeUrl, no_url, a_url, url_names}
use Rattle.smith_types.proofs.ReadsDeclarations.{ref_same}
use Rattle.smith_component.specs.Imports.{ReadsImport, ReadsImports}
use Rattle.smith_tree.specs.Offers.{marked_with_imports, totals_of, with_imports}
use Rattle.smith_tree.specs.Open.{Open}
use Rattle.smith_tree.specs.Tree.{imports_of, ExportEntry, Tree, exports_of, lift, lower}
use Rattle.smith_tree.specs.WellFormed.{import_names, export_names, HasSignature}
use Rattle.smith_component.specs.ExportReading.{ReadsExport, ReadsExports}
use Rattle.std.specs.Prelude.{slice_get}
use Rattle.smith_format.specs.CoreTypes.{Function}
use Rattle.smith_syntax.specs.Flat.{Flattens}
use Rattle.smith_syntax.proofs.Flat.{flattens_same}
use Rattle.smith_types.proofs.Lifting.{lifted_same}
use Rattle.smith_types.specs.Lifting.{ReadsLiftedType}
use Rattle.smith_component.specs.Canonicals.{Growing, spaces_at, with_canon, LiftsTo, to_equal, to_defined, given_up, ReadsLift, ReadsCanon, CanonTurn}
use Rattle.smith_component.specs.Canonicals.{empty_section, ReadsCanons}
use Rattle.smith_tree.specs.Spaces.{Spaces}
use Rattle.smith_tree.specs.declared.choices.CanonItem.{CanonItem}
use Rattle.smith_tree.specs.declared.choices.CanonItem.TheVariants.{Lower, Lift}

-- What a URL leaves does not depend on those that were used.
url_left : {config : Config} {used others : List (List ℕ)} {b r s : List ℕ} {u v : Option (List ℕ)} → ReadsMaybeUrl config used b u r
    → ReadsMaybeUrl config others b v s → r ≡ s
url_left (no_url f) (no_url g) = (flips_unique f g).1
url_left (no_url f) (a_url g n e) = absurd (let z : false ≡ true = (flips_unique f g).0 in cc)
url_left (a_url g n e) (no_url f) = absurd (let z : true ≡ false = (flips_unique g f).0 in cc)
url_left {config} {used = used} {r = r} (a_url {name = a} f n e) (a_url g m h) =
    let P : List ℕ → Type 0 = λ z. ReadsNew config.max_name_length used z a r in
    let w : ReadsNew config.max_name_length used _ a r = subst P (flips_unique f g).1 n in
    (kebab_unique w.reads m.reads).1

module _ (config : Config) (stack : Open) where
  import_same : (s : List ImportEntry) (b : List ℕ) (x y : ImportEntry) (r q : List ℕ) (t u : List ImportEntry) → ReadsImport config stack s b x r t
      → ReadsImport config stack s b y q u → (x ≡ y) × (r ≡ q) × (t ≡ u)
  import_same s b x y r q t u i j =
      let ns : List (List ℕ) = import_names (imports_of stack.inner ++ s) in
      let o = ref_same config (marked_with_imports config stack s) (totals_of (with_imports stack s)) true false b x.to y.to i.mid j.mid i.of j.of in
      let A : List ℕ → Type 0 = λ z. ReadsNew config.max_name_length ns z x.name i.named.mid in
      let read : ReadsNew config.max_name_length ns i.mid x.name i.named.mid =
      subst (λ z. ReadsNew config.max_name_length z i.mid x.name i.named.mid) i.names_are i.named.name in
      let other : ReadsNew config.max_name_length ns j.mid y.name j.named.mid =
      subst (λ z. ReadsNew config.max_name_length z j.mid y.name j.named.mid) j.names_are j.named.name in
      let n = new_unique (subst A o.1 read) other in
      let same : x ≡ y = λ k. record { name = n.0 k; to = o.0 k } in
      let left = url_left (subst (λ z. ReadsMaybeUrl config (url_names i.so_far) z i.url r) n.1 i.named.url) j.named.url in
      (same, left, i.next_is ∙ (ap (λ z. s ++ z ∷ []) same ∙ sym j.next_is))

  pub imports_same : {min : ℕ} {b r q : List ℕ} {is js : List ImportEntry} → ReadsImports config min stack b is r → ReadsImports config min stack b js q
      → (is ≡ js) × (r ≡ q)
  imports_same {b = b} {r = r} {q = q} {is = is} {js = js} x y =
      let d = loop_same (λ s c v p t w e f. (e.1 ∙ sym f.1, e.2 ∙ sym f.2)) (λ s c x v p t w e i. among_none e.0 i.of.choice) import_same
      0 [] b is js r q is js x y in (d.0, d.1)

module _ (config : Config) (outer : List Tree) (t : Tree) where
  export_same : (s : List ExportEntry) (b : List ℕ) (x y : ExportEntry) (r q : List ℕ) (u v : List ExportEntry) → ReadsExport config outer t s b x r u
      → ReadsExport config outer t s b y q v → (x ≡ y) × (r ≡ q) × (u ≡ v)
  export_same s b x y r q u v i j =
      let o = reads_unique i.of j.of in
      let A : List ℕ → Type 0 = λ z. ReadsNew config.max_name_length (export_names (exports_of t ++ s)) z x.name r in
      let n = new_unique (subst A o.1 i.named) j.named in
      let same : x ≡ y = λ k. record { name = n.0 k; func = o.0 k } in
      (same, n.1, i.next_is ∙ (ap (λ z. s ++ z ∷ []) same ∙ sym j.next_is))

  pub exports_same : {b r q : List ℕ} {es fs : List ExportEntry} → ReadsExports config outer t b es r → ReadsExports config outer t b fs q
      → (es ≡ fs) × (r ≡ q)
  exports_same {b = b} {r = r} {q = q} {es = es} {fs = fs} x y =
      let d = loop_same (λ s c v p u w e f. (e.1 ∙ sym f.1, e.2 ∙ sym f.2)) (λ s c x v p u w e i. omega (arith, i.of.below, ap length e.0)) export_same
      0 [] b es fs r q es fs x y in
      (d.0, d.1)

signature_same : {s : Spaces} {f : ℕ} {a b : Signature} → HasSignature s f a → HasSignature s f b → a ≡ b
signature_same {s} {f} {a} {b} x y =
    let e : Some x.ty ≡ Some y.ty = sym x.stands ∙ y.stands in
    let t : x.ty ≡ y.ty = cc in
    let g : Some (function a) ≡ Some (function b) = sym x.is ∙ (ap (slice_get s.types) t ∙ y.is) in
    cc

lifts_same : {config : Config} {s : Growing} {c : ℕ} {signature : Signature} {b r q : List ℕ} {t u : Growing} → LiftsTo config s c signature b r t
    → LiftsTo config s c signature b q u → (r ≡ q) × (t ≡ u)
lifts_same {s = s} {c = c} (to_equal a e) (to_equal d f) = let n = among_same a d in (n.1, e ∙ (ap (λ z. with_canon s (lift c z)) n.0 ∙ sym f))
lifts_same (to_equal a e) (to_defined none room l f) = absurd (among_none none a)
lifts_same (to_equal a e) (given_up none full l f) = absurd (among_none none a)
lifts_same (to_defined none room l f) (to_equal a e) = absurd (among_none none a)
lifts_same (to_defined none room l f) (to_defined nor more k g) = (l ∙ sym k, f ∙ sym g)
lifts_same (to_defined none room l f) (given_up nor full k g) = absurd (omega (arith, room, full))
lifts_same (given_up none full l f) (to_equal a e) = absurd (among_none none a)
lifts_same (given_up none full l f) (to_defined nor room k g) = absurd (omega (arith, room, full))
lifts_same (given_up none full l f) (given_up nor more k g) = (l ∙ sym k, f ∙ sym g)

module _ (config : Config) where
  lift_same : {s : Growing} {b r q : List ℕ} {t u : Growing} → ReadsLift config s b r t → ReadsLift config s b q u → (r ≡ q) × (t ≡ u)
  lift_same {s} {b} {r} {q} {t} {u} x y =
      let c = reads_unique x.chooses y.chooses in
      let e : Some x.f ≡ Some y.f = sym x.lowers ∙ (ap (slice_get (spaces_at s).core_functions) c.0 ∙ y.lowers) in
      let f : x.f ≡ y.f = cc in
      let l : x.lowered ≡ y.lowered = signature_same (subst (λ z. HasSignature (spaces_at s) z x.lowered) f x.of) y.of in
      let k : x.core ≡ y.core = flattens_same (subst (λ z. Flattens z x.core) l x.flattens) y.flattens in
      let R : Function → Type 0 = λ z. ReadsLiftedType config.max_name_length z x.mid x.signature x.low in
      let M : List ℕ → Type 0 = λ z. ReadsLiftedType config.max_name_length y.core z x.signature x.low in
      let g = lifted_same (subst M c.1 (subst R k x.reads)) y.reads in
      let C : ℕ → Type 0 = λ z. LiftsTo config s z x.signature x.low r t in
      let S : Signature → Type 0 = λ z. LiftsTo config s y.c z x.low r t in
      let L : List ℕ → Type 0 = λ z. LiftsTo config s y.c y.signature z r t in
      lifts_same (subst L g.1 (subst S g.0 (subst C c.0 x.lifts))) y.lifts

  canon_same : (s : Growing) (item : CanonItem) (b r q : List ℕ) (t u : Growing) → ReadsCanon config s item b r t → ReadsCanon config s item b q u
      → (r ≡ q) × (t ≡ u)
  canon_same s Lower b r q t u (f, a, e) (g, c, d) = let n = among_same a c in (n.1, e ∙ (ap (λ z. with_canon s (lower z)) n.0 ∙ sym d))
  canon_same s Lift b r q t u x y = lift_same x y

  turn_same : (s : Growing) (b : List ℕ) (x y : CanonItem) (r q : List ℕ) (t u : Growing) → CanonTurn config s b x r t → CanonTurn config s b y q u
      → (x ≡ y) × (r ≡ q) × (t ≡ u)
  turn_same s b x y r q t u (mid, c, does) (low, d, other) =
      let n = among_same c d in
      let P : CanonItem → Type 0 = λ z. ReadsCanon config s z mid r t in
      let Q : List ℕ → Type 0 = λ z. ReadsCanon config s y z r t in
      let m = canon_same s y low r q t u (subst Q n.1 (subst P n.0 does)) other in
      (n.0, m.0, m.1)

  pub canons_same : {min : ℕ} {before : Tree} {b r q : List ℕ} {xs ys : List CanonItem} {t u : Growing} → ReadsCanons config min before b xs r t
      → ReadsCanons config min before b ys q u → (r ≡ q) × (t ≡ u)
  canons_same {before = before} {b = b} {r = r} {q = q} {xs = xs} {ys = ys} {t = t} {u = u} x y =
      let d = loop_same (λ s c v p t w e f. (e.1 ∙ sym f.1, e.2 ∙ sym f.2)) (λ s c x v p t w e i. among_none e.0 i.1) turn_same
      0 (empty_section before) b xs ys r q t u x y in
      (d.1, d.2)
