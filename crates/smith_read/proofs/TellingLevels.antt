-- What is read is what is spelled: types that hold types.
use Rattle.std.proofs.Common.{arith, ◌≡◌, ℕ, zero, suc, List, [], ◌∷◌, Option, Some, None, refl, ap, sym, ◌∙◌, subst, Bool, true, false, cond}
use Rattle.std.proofs.Common.{eqb, lit<}
use Rattle.std.proofs.lemmas.Bool.{eqb-true}
use Rattle.smith_format.specs.Piece.{Piece, ◌⊕◌, byte, bytes, u, many}
use Rattle.smith_format.proofs.Piece.{assoc, joined, left_none}
use Rattle.smith_syntax.specs.Entries.{Entry, defined, function, component_type, instance_type}
use Rattle.smith_syntax.specs.Entries.{Decl, Decls, core_type_decl, type_decl, type_alias, core_type_alias, import_decl, export_decl, no_decls, then_decls}
use Rattle.smith_syntax.specs.Entries.{in_order, decl_count}
use Rattle.smith_read.specs.Levels.{Outer, outer_decl, outer_text, outer_of, outer_after, outer_at, leaf_after, import_after, decl_after, decl_at}
use Rattle.smith_read.specs.Levels.{around_after, entry_after, entry_at, decl_in, decls_in, around, leaf, entry_in}
use Rattle.smith_read.specs.Reading.{Found, ◌>>=◌, seen, byte_at, behind, both_at, many_at, u_at}
use Rattle.smith_read.specs.Tells.{Begins, Tells}
use Rattle.smith_read.specs.Types.{primitive_of, defined_after}
use Rattle.smith_read.proofs.Telling.{chain, nothing, tells_u, tells_both, tells_behind, tells_many, tells_after, row_sound, row_told, Told, seen_is}
use Rattle.smith_read.proofs.TellingTypes.{defined_begins, defined_read, tells_function}
use Rattle.smith_read.proofs.TellingCore.{tells_core_entry, tells_named}
use Rattle.smith_syntax.proofs.Declarations.{many_decls}

-- ---- outer aliases

tells_type_outer : Tells (λ (x : ℕ × ℕ). byte 0x02 ⊕ (u x.0 ⊕ u x.1)) (behind 0x02 (both_at u_at u_at))
tells_type_outer = tells_behind 0x02 (lit< tt) (tells_both tells_u tells_u)

tells_core_outer : Tells (λ (x : ℕ × ℕ). byte 0x10 ⊕ (byte 0x02 ⊕ (u x.0 ⊕ u x.1))) (behind 0x10 (behind 0x02 (both_at u_at u_at)))
tells_core_outer = tells_behind 0x10 (lit< tt) tells_type_outer

outer_begins : (b : List ℕ) (t : ℕ × List ℕ) (x : Outer × List ℕ) → byte_at b ≡ Some t → outer_after t.0 t.1 ≡ Some x → Begins outer_text b x
unfolding outer_after
outer_begins b t x e =
    chain t.0 0x03 _ _ x (row_sound outer_text (outer_of true) 0x03 tells_type_outer (λ i. refl) b t x e)
    (chain t.0 0x00 _ _ x (row_sound outer_text (outer_of false) 0x00 tells_core_outer (λ i. refl) b t x e)
    (nothing x))

outer_read : (b : List ℕ) (x : Outer) (rest : List ℕ) → Begins outer_text b (x, rest) → Told outer_after b (x, rest)
unfolding outer_after
outer_read b (true, c, i) rest e = row_told outer_after (outer_of true) 0x03 (lit< tt) tells_type_outer (λ bs. refl) {x = (c, i)} e
outer_read b (false, c, i) rest e = row_told outer_after (outer_of false) 0x00 (lit< tt) tells_core_outer (λ bs. refl) {x = (c, i)} e

tells_outer : Tells outer_text outer_at
unfolding outer_at
tells_outer = tells_after outer_after outer_begins outer_read

three : (l m n : ℕ) (p : Piece) → bytes (l ∷ m ∷ n ∷ []) ⊕ p ≡ byte l ⊕ (byte m ⊕ (byte n ⊕ p))
three l m n p =
    ap (λ h. h ⊕ p) (sym (joined (l ∷ []) (m ∷ n ∷ []))) ∙ assoc (byte l) (bytes (m ∷ n ∷ [])) p
    ∙ ap (λ h. byte l ⊕ h) (ap (λ h. h ⊕ p) (sym (joined (m ∷ []) (n ∷ []))) ∙ assoc (byte m) (byte n) p)

four : (k l m n : ℕ) (p : Piece) → bytes (k ∷ l ∷ m ∷ n ∷ []) ⊕ p ≡ byte k ⊕ (byte l ⊕ (byte m ⊕ (byte n ⊕ p)))
four k l m n p = ap (λ h. h ⊕ p) (sym (joined (k ∷ []) (l ∷ m ∷ n ∷ []))) ∙ assoc (byte k) (bytes (l ∷ m ∷ n ∷ [])) p ∙ ap (λ h. byte k ⊕ h) (three l m n p)

no_piece : (rest b : List ℕ) → None ⊕ Some rest ≡ Some b → ⊥
no_piece rest b e = let z : None ≡ Some b = sym (left_none (Some rest)) ∙ e in cc

-- ---- lists of declarations

abbrev list_of : Decls → List Decl
list_of no_decls = []
list_of (then_decls d ds) = d ∷ list_of ds

listed : (ds : Decls) → in_order (list_of ds) ≡ ds
listed no_decls = refl
listed (then_decls d ds) = ap (then_decls d) (listed ds)

-- ---- types that hold no types

leaf_begins : (b : List ℕ) (t : ℕ × List ℕ) (x : Entry × List ℕ) → byte_at b ≡ Some t → leaf_after t.0 t.1 ≡ Some x → Begins leaf b x
unfolding leaf_after
leaf_begins b t x e =
    chain t.0 0x40 _ _ x (row_sound leaf function 0x40 tells_function (λ i. refl) b t x e)
    (λ g. let d = seen_is defined (defined_after t.0 t.1) x g in subst (λ (p : Entry × List ℕ). Begins leaf b p) d.2 (defined_begins b t d.0 e d.1))

-- what is read by another test is read there
not_here : {B : Type 0} (tag n : ℕ) (x y : Option B) (z : B) → (tag ≡ n → y ≡ Some z → ⊥) → y ≡ Some z → cond (eqb tag n) x y ≡ Some z
not_here {B} tag n x y z never e = by_test (eqb tag n) refl
  where
    by_test : (t : Bool) → eqb tag n ≡ t → cond t x y ≡ Some z
    by_test true f = absurd (never (eqb-true tag n f) e)
    by_test false f = e

seen_some : {A B : Type 0} (g : A → B) (r : Found A) (y : A × List ℕ) → r ≡ Some y → seen g r ≡ Some (g y.0, y.1)
seen_some g r y e = ap (seen g) e

no_function : (n : ℕ) (bs : List ℕ) (y : Entry × List ℕ) → n ≡ 0x40 → seen defined (defined_after n bs) ≡ Some y → ⊥
unfolding defined_after primitive_of
no_function n bs y e f = let g : None ≡ Some y = ap (λ m. seen defined (defined_after m bs)) (sym e) ∙ f in cc

leaf_read : (b : List ℕ) (x : Entry) (rest : List ℕ) → Begins leaf b (x, rest) → Told leaf_after b (x, rest)
unfolding leaf_after
leaf_read b (defined d) rest e = grind (arith, defined_read, not_here, no_function, seen_some)
leaf_read b (function s) rest e = row_told leaf_after function 0x40 (lit< tt) tells_function (λ bs. refl) e
leaf_read b (component_type ds) rest e = absurd (no_piece rest b e)
leaf_read b (instance_type ds) rest e = absurd (no_piece rest b e)

leaf_none : (n : ℕ) (bs : List ℕ) (y : Entry × List ℕ) → n ≡ 0x41 → leaf_after n bs ≡ Some y → ⊥
unfolding leaf_after defined_after primitive_of
leaf_none n bs y e f = let g : None ≡ Some y = ap (λ m. leaf_after m bs) (sym e) ∙ f in cc

leaf_none_either : (n : ℕ) (bs : List ℕ) (y : Entry × List ℕ) → n ≡ 0x42 → leaf_after n bs ≡ Some y → ⊥
unfolding leaf_after defined_after primitive_of
leaf_none_either n bs y e f = let g : None ≡ Some y = ap (λ m. leaf_after m bs) (sym e) ∙ f in cc

-- what is read as a leaf is read so among the others
told_around : (inner : ℕ → List ℕ → Found Entry) (b : List ℕ) (x : Entry) (rest : List ℕ) → Told leaf_after b (x, rest) → Told (around_after inner) b (x, rest)
unfolding around_after
told_around inner b x rest t = grind (arith, not_here, leaf_none, leaf_none_either)

leaf_around : (f : Entry → Piece) (b : List ℕ) (x : Entry × List ℕ) → Begins leaf b x → Begins (around f) b x
leaf_around f b (defined d, rest) e = e
leaf_around f b (function s, rest) e = e
leaf_around f b (component_type ds, rest) e = absurd (no_piece rest b e)
leaf_around f b (instance_type ds, rest) e = absurd (no_piece rest b e)

component_is : (inner : ℕ → List ℕ → Found Entry) (bs : List ℕ)
    → around_after inner 0x41 bs ≡ seen (λ ds. component_type (in_order ds)) (many_at (decl_at inner true) bs)
unfolding around_after
component_is inner bs = refl

instance_is : (inner : ℕ → List ℕ → Found Entry) (bs : List ℕ)
    → around_after inner 0x42 bs ≡ seen (λ ds. instance_type (in_order ds)) (many_at (decl_at inner false) bs)
unfolding around_after
instance_is inner bs = refl

module _ (f : Entry → Piece) (inner : ℕ → List ℕ → Found Entry) (c : Tells f (λ b. byte_at b >>= λ t. inner t.0 t.1)) where
  -- ---- declarations

  outer_is : (importing : Bool) (x : Outer) → decl_in f importing (outer_decl x) ≡ byte 0x02 ⊕ outer_text x
  outer_is importing (true, n, i) = three 0x02 0x03 0x02 (u n ⊕ u i)
  outer_is importing (false, n, i) = four 0x02 0x00 0x10 0x02 (u n ⊕ u i)

  import_begins : (importing : Bool) (b : List ℕ) (t : ℕ × List ℕ) (x : Decl × List ℕ) → byte_at b ≡ Some t → t.0 ≡ 0x03 → import_after importing t.1 ≡ Some x
      → Begins (decl_in f importing) b x
  unfolding import_after
  import_begins true b t x e i g = row_sound (decl_in f true) (λ x. import_decl x.0 tt x.1) 0x03 tells_named (λ i. refl) b t x e i g
  import_begins false b t x e i g = absurd cc

  decl_begins : (importing : Bool) (b : List ℕ) (t : ℕ × List ℕ) (x : Decl × List ℕ) → byte_at b ≡ Some t → decl_after inner importing t.0 t.1 ≡ Some x
      → Begins (decl_in f importing) b x
  unfolding decl_after
  decl_begins importing b t x e =
      chain t.0 0x00 _ _ x (row_sound (decl_in f importing) (λ t. core_type_decl t tt) 0x00 tells_core_entry (λ i. refl) b t x e)
      (chain t.0 0x01 _ _ x (row_sound (decl_in f importing) type_decl 0x01 c (λ i. refl) b t x e)
      (chain t.0 0x02 _ _ x (row_sound (decl_in f importing) outer_decl 0x02 tells_outer (outer_is importing) b t x e)
      (chain t.0 0x03 _ _ x (import_begins importing b t x e)
      (chain t.0 0x04 _ _ x (row_sound (decl_in f importing) (λ x. export_decl x.0 tt x.1) 0x04 tells_named (λ i. refl) b t x e)
      (nothing x)))))

  decl_read : (importing : Bool) (b : List ℕ) (x : Decl) (rest : List ℕ) → Begins (decl_in f importing) b (x, rest)
      → Told (decl_after inner importing) b (x, rest)
  unfolding decl_after import_after
  decl_read importing b (core_type_decl t k) rest e =
      row_told (decl_after inner importing) (λ t. core_type_decl t tt) 0x00 (lit< tt) tells_core_entry (λ bs. refl) e
  decl_read importing b (type_decl t) rest e = row_told (decl_after inner importing) type_decl 0x01 (lit< tt) c (λ bs. refl) e
  decl_read importing b (type_alias n i k) rest e =
      row_told (decl_after inner importing) outer_decl 0x02 (lit< tt) tells_outer (λ bs. refl) {x = (true, n, i)}
      (ap (λ p. p ⊕ Some rest) (sym (outer_is importing (true, n, i))) ∙ e)
  decl_read importing b (core_type_alias n i k) rest e =
      row_told (decl_after inner importing) outer_decl 0x02 (lit< tt) tells_outer (λ bs. refl) {x = (false, n, i)}
      (ap (λ p. p ⊕ Some rest) (sym (outer_is importing (false, n, i))) ∙ e)
  decl_read true b (import_decl n k r) rest e = row_told (decl_after inner true) (λ x. import_decl x.0 tt x.1) 0x03 (lit< tt) tells_named
      (λ bs. refl) {x = (n, r)} e
  decl_read false b (import_decl n k r) rest e = absurd (no_piece rest b e)
  decl_read importing b (export_decl n k r) rest e =
      row_told (decl_after inner importing) (λ x. export_decl x.0 tt x.1) 0x04 (lit< tt) tells_named (λ bs. refl) {x = (n, r)} e

  tells_decl : (importing : Bool) → Tells (decl_in f importing) (decl_at inner importing)
  unfolding decl_at
  tells_decl importing = tells_after (decl_after inner importing) (decl_begins importing) (decl_read importing)

  -- ---- lists of them

  many_in : (importing : Bool) (ds : List Decl) → u (decl_count (in_order ds)) ⊕ decls_in f importing (in_order ds) ≡ many (decl_in f importing) ds
  many_in importing ds = many_decls (decl_in f importing) (decls_in f importing) refl (λ d es. refl) ds

  -- ---- types

  around_begins : (b : List ℕ) (t : ℕ × List ℕ) (x : Entry × List ℕ) → byte_at b ≡ Some t → around_after inner t.0 t.1 ≡ Some x → Begins (around f) b x
  unfolding around_after
  around_begins b t x e =
      chain t.0 0x41 _ _ x
      (row_sound (around f) (λ ds. component_type (in_order ds)) 0x41 (tells_many (tells_decl true))
      (λ ds. ap (λ p. byte 0x41 ⊕ p) (many_in true ds)) b t x e)
      (chain t.0 0x42 _ _ x
      (row_sound (around f) (λ ds. instance_type (in_order ds)) 0x42 (tells_many (tells_decl false))
      (λ ds. ap (λ p. byte 0x42 ⊕ p) (many_in false ds)) b t x e)
      (λ g. leaf_around f b x (leaf_begins b t x e g)))

  around_read : (b : List ℕ) (x : Entry) (rest : List ℕ) → Begins (around f) b (x, rest) → Told (around_after inner) b (x, rest)
  around_read b (defined d) rest e = told_around inner b (defined d) rest (leaf_read b (defined d) rest e)
  around_read b (function s) rest e = told_around inner b (function s) rest (leaf_read b (function s) rest e)
  around_read b (component_type ds) rest e =
      subst (λ (x : Decls). Told (around_after inner) b (component_type x, rest)) (listed ds)
      (row_told (around_after inner) (λ ds. component_type (in_order ds)) 0x41 (lit< tt) (tells_many (tells_decl true)) (component_is inner) {x = list_of ds}
      (ap (λ p. (byte 0x41 ⊕ p) ⊕ Some rest) (sym (many_in true (list_of ds)) ∙ ap (λ x. u (decl_count x) ⊕ decls_in f true x) (listed ds)) ∙ e))
  around_read b (instance_type ds) rest e =
      subst (λ (x : Decls). Told (around_after inner) b (instance_type x, rest)) (listed ds)
      (row_told (around_after inner) (λ ds. instance_type (in_order ds)) 0x42 (lit< tt) (tells_many (tells_decl false)) (instance_is inner) {x = list_of ds}
      (ap (λ p. (byte 0x42 ⊕ p) ⊕ Some rest) (sym (many_in false (list_of ds)) ∙ ap (λ x. u (decl_count x) ⊕ decls_in f false x) (listed ds)) ∙ e))

  tells_around : Tells (around f) (λ b. byte_at b >>= λ t. around_after inner t.0 t.1)
  tells_around = tells_after (around_after inner) around_begins around_read

pub tells_entry : (n : ℕ) → Tells (entry_in n) (entry_at n)
unfolding entry_in entry_at entry_after
tells_entry zero = tells_after leaf_after leaf_begins leaf_read
tells_entry (suc n) = tells_around (entry_in n) (entry_after n) (tells_entry n)
