-- What has no encoding.
use Rattle.std.proofs.Common.{◌≡◌, ℕ, zero, suc, ◌<◌, ◌⊎◌, inl, inr, ◌↔◌, Bool, true, false, IsUtf8, List, [], ◌∷◌, length, refl, ap, subst, sym, ◌∙◌, arith}
use Rattle.std.proofs.Common.{Some, None, Option}
use Rattle.std.specs.List.{Any, AllByRecursion, list_all}
use Rattle.std.specs.Str.{is_utf8}
use Rattle.std.proofs.lemmas.Bool.{and_parts, lt-ltb, false≢true}
use Rattle.std.proofs.lemmas.Str.{IsUtf8-from_is_utf8, is_utf8-from_IsUtf8}
use Rattle.std.specs.Prelude.{nat_lt, if◌then◌else◌}
use borrow.Author.Tests.{ltb-true}
use Rattle.smith_format.specs.CoreTypes.{ref_val, core_val, core_function, Function}
use Rattle.smith_format.specs.Entities.{maximum, limits, table_type, memory_type, global_type, tag_type, entity, CoreImport, core_import}
use Rattle.smith_format.specs.Piece.{Piece, ◌⊕◌, number, u, s_index, raw, utf8, framed, text, each, many, sized}
use Rattle.smith_format.specs.TooLong.{IsTooLarge, NameTooLong, NoBytes, ListTooLong, ContentsTooLong, RefTooLong, ValTooLong, FunctionTooLong, EntityTooLong}
use Rattle.smith_format.specs.TooLong.{ImportTooLong, LimitsTooLong, MaximumTooLong, MemoryTypeTooLong, TableTypeTooLong}
use Rattle.smith_format.specs.declared.types.EntityType.{EntityType}
use Rattle.smith_format.specs.declared.types.EntityType.TheVariants.{Func, Table, Memory, Global, Tag}
use Rattle.smith_format.specs.declared.types.GlobalType.{GlobalType}
use Rattle.smith_format.specs.declared.types.MemoryType.{MemoryType}
use Rattle.smith_format.specs.declared.types.RefType.{RefType}
use Rattle.smith_format.specs.declared.types.RefType.TheVariants.{FuncRef, ExternRef, Concrete}
use Rattle.smith_format.specs.declared.types.TableType.{TableType}
use Rattle.smith_format.specs.declared.types.TagType.{TagType}
use Rattle.smith_format.specs.declared.types.ValType.{ValType}
use Rattle.smith_format.specs.declared.types.ValType.TheVariants.{I32, I64, F32, F64, V128, Ref}
use Rattle.smith_format.proofs.Piece.{left_none, right_none, none_join}
use Rattle.smith_format.proofs.ScriptBytes.{all_of}
use Rattle.smith_format.proofs.Sizes.{framed_cases, framed_none, u_none_where, number_none_where, s_index_none_where, text_none_where}

-- two pieces have no encoding exactly if one of them has none
pub join_none : {P Q : Type 0} (p q : Piece) → (p ≡ None) ↔ P → (q ≡ None) ↔ Q → (p ⊕ q ≡ None) ↔ (P ⊎ Q)
join_none {P} {Q} p q f g = (
  λ e. elim (none_join p q e) [ inl n ↦ inl (f.0 n) | inr n ↦ inr (g.0 n) ],
  λ h. elim h [ inl n ↦ ap (λ x. x ⊕ q) (f.1 n) ∙ left_none q | inr n ↦ ap (λ x. p ⊕ x) (g.1 n) ∙ right_none p ],
)

-- bytes in front have one
pub after_bytes : {Q : Type 0} (b : List ℕ) (q : Piece) → (q ≡ None) ↔ Q → (Some b ⊕ q ≡ None) ↔ Q
after_bytes {Q} b q g = (
  λ e. elim (none_join (Some b) q e) [ inl n ↦ absurd (let z : Some b ≡ None = n in cc) | inr n ↦ g.0 n ],
  λ h. ap (λ x. Some b ⊕ x) (g.1 h) ∙ right_none (Some b),
)

-- and so have bytes at the end
pub before_bytes : {P : Type 0} (p : Piece) (b : List ℕ) → (p ≡ None) ↔ P → (p ⊕ Some b ≡ None) ↔ P
before_bytes {P} p b f = (
  λ e. elim (none_join p (Some b) e) [ inl n ↦ f.0 n | inr n ↦ absurd (let z : Some b ≡ None = n in cc) ],
  λ h. ap (λ x. x ⊕ Some b) (f.1 h) ∙ left_none (Some b),
)

pub bytes_none : (b : List ℕ) → (Some b ≡ None) ↔ ⊥
bytes_none b = (λ e. cc, λ h. absurd h)

-- a list of which something is known
module _ {A : Type 0} (Q : A → Type 0) (f : A → Piece) {P : A → Type 0} (one : (x : A) → Q x → (f x ≡ None) ↔ P x) where
  any_first : (x : A) (xs : List A) → P x ⊎ Any P xs → Any P (x ∷ xs)
  any_first x xs (inl p) = (0, x, omega arith, refl, p)
  any_first x xs (inr (k, y, h, e, p)) = (suc k, y, omega arith, e, p)

  any_split : (x : A) (xs : List A) → Any P (x ∷ xs) → P x ⊎ Any P xs
  any_split x xs (zero, y, h, e, p) = inl (subst P (sym e) p)
  any_split x xs (suc k, y, h, e, p) = inr (k, y, omega (arith, h), e, p)

  each_none_among : (xs : List A) → AllByRecursion Q xs → (each f xs ≡ None) ↔ Any P xs
  each_none_among [] all =
      (λ e. absurd (let z : Some [] ≡ None = e in cc), λ a. absurd (let l : a.0 < 0 = a.2 in omega (arith, l)))
  each_none_among (x ∷ xs) all =
      let j = join_none (f x) (each f xs) (one x all.0) (each_none_among xs all.1) in
      (λ e. any_first x xs (j.0 e), λ a. j.1 (any_split x xs a))

  pub many_none_among : (xs : List A) → AllByRecursion Q xs → (many f xs ≡ None) ↔ ListTooLong P xs
  many_none_among xs all = join_none (u (length xs)) (each f xs) (u_none_where (length xs)) (each_none_among xs all)

module _ {A : Type 0} (f : A → Piece) {P : A → Type 0} (one : (x : A) → (f x ≡ None) ↔ P x) where
  pub each_none_where : (xs : List A) → (each f xs ≡ None) ↔ Any P xs
  each_none_where xs = each_none_among (λ x. Unit {0}) f (λ x known. one x) xs (all_of (λ x. Unit {0}) (λ x. tt) xs)

  pub many_none_where : (xs : List A) → (many f xs ≡ None) ↔ ListTooLong P xs
  many_none_where xs = many_none_among (λ x. Unit {0}) f (λ x known. one x) xs (all_of (λ x. Unit {0}) (λ x. tt) xs)

pub ref_none_where : (r : RefType) → (ref_val r ≡ None) ↔ RefTooLong r
ref_none_where FuncRef = bytes_none (0x70 ∷ [])
ref_none_where ExternRef = bytes_none (0x6f ∷ [])
ref_none_where (Concrete true i) = after_bytes (0x63 ∷ []) (s_index i) (s_index_none_where i)
ref_none_where (Concrete false i) = after_bytes (0x64 ∷ []) (s_index i) (s_index_none_where i)

pub val_none_where : (v : ValType) → (core_val v ≡ None) ↔ ValTooLong v
val_none_where I32 = bytes_none (0x7f ∷ [])
val_none_where I64 = bytes_none (0x7e ∷ [])
val_none_where F32 = bytes_none (0x7d ∷ [])
val_none_where F64 = bytes_none (0x7c ∷ [])
val_none_where V128 = bytes_none (0x7b ∷ [])
val_none_where (Ref r) = ref_none_where r

pub function_none_where : (f : Function) → (core_function f ≡ None) ↔ FunctionTooLong f
function_none_where f =
    after_bytes (0x60 ∷ []) (many core_val f.0 ⊕ many core_val f.1)
    (join_none (many core_val f.0) (many core_val f.1) (many_none_where core_val val_none_where f.0) (many_none_where core_val val_none_where f.1))

maximum_none : (m : Option ℕ) → (maximum m ≡ None) ↔ MaximumTooLong m
maximum_none None = bytes_none []
maximum_none (Some n) = number_none_where n

limits_none : (shared wide : Bool) (n : ℕ) (m : Option ℕ) → (limits shared wide n m ≡ None) ↔ LimitsTooLong n m
limits_none shared wide n m =
    after_bytes _ (number n ⊕ maximum m)
    (join_none (number n) (maximum m) (number_none_where n) (maximum_none m))

pub table_none : (t : TableType) → (table_type t ≡ None) ↔ TableTypeTooLong t
table_none t =
    join_none (ref_val t.element_type) _ (ref_none_where t.element_type)
    (limits_none false t.table64 t.minimum t.maximum)

pub memory_none : (m : MemoryType) → (memory_type m ≡ None) ↔ MemoryTypeTooLong m
memory_none m = limits_none m.shared m.memory64 m.minimum m.maximum

pub global_none : (g : GlobalType) → (global_type g ≡ None) ↔ ValTooLong g.val_type
global_none g = before_bytes (core_val g.val_type) _ (val_none_where g.val_type)

pub tag_none : (t : TagType) → (tag_type t ≡ None) ↔ IsTooLarge t.func_type_idx
tag_none t = after_bytes (0 ∷ []) (u t.func_type_idx) (u_none_where t.func_type_idx)

pub entity_none_where : (e : EntityType) → (entity e ≡ None) ↔ EntityTooLong e
entity_none_where (Func i) = after_bytes (0 ∷ []) (u i) (u_none_where i)
entity_none_where (Table t) = after_bytes (1 ∷ []) (table_type t) (table_none t)
entity_none_where (Memory m) = after_bytes (2 ∷ []) (memory_type m) (memory_none m)
entity_none_where (Global g) = after_bytes (3 ∷ []) (global_type g) (global_none g)
entity_none_where (Tag t) = after_bytes (4 ∷ []) (tag_type t) (tag_none t)

pub import_none_where : (i : CoreImport) → IsUtf8 i.0 → IsUtf8 i.1 → (core_import i ≡ None) ↔ ImportTooLong i
import_none_where i m n =
    join_none (text i.0) (text i.1 ⊕ entity i.2) (text_none_where i.0 m) (join_none (text i.1) (entity i.2) (text_none_where i.1 n) (entity_none_where i.2))

no_text : (n : List ℕ) → is_utf8 n ≡ false → text n ≡ None
unfolding text utf8
no_text n e = rw e (right_none (u (length n)))

pub name_none : (n : List ℕ) → (text n ≡ None) ↔ NameTooLong n
name_none n = by_test (is_utf8 n) refl
  where
    by_test : (b : Bool) → is_utf8 n ≡ b → (text n ≡ None) ↔ NameTooLong n
    by_test true e =
        let utf8 = IsUtf8-from_is_utf8 n e in
        let at = text_none_where n utf8 in
        (λ t. inl (at.0 t), λ h. elim h [ inl l ↦ at.1 l | inr not ↦ absurd (not utf8) ])
    by_test false e = (λ t. inr (λ h. false≢true (sym e ∙ is_utf8-from_IsUtf8 n h)), λ h. no_text n e)

bytes_pass : (bs : List ℕ) → AllByRecursion (λ b. b < 256) bs → list_all (λ b. nat_lt b 256) bs ≡ true
bytes_pass [] h = refl
bytes_pass (b ∷ bs) h = rw (lt-ltb b 256 h.0) (bytes_pass bs h.1)

pub raw_some : (bs : List ℕ) → AllByRecursion (λ b. b < 256) bs → ¬ (raw bs ≡ None)
unfolding raw
raw_some bs h e = let z : (if list_all (λ b. nat_lt b 256) bs then Some bs else None) ≡ None = e in let w = rw (bytes_pass bs h) at z in cc

pub small_raw : (bs : List ℕ) → list_all (λ b. nat_lt b 256) bs ≡ true → AllByRecursion (λ b. b < 256) bs
small_raw [] e = tt
small_raw (b ∷ bs) e =
    let z = and_parts (nat_lt b 256) (list_all (λ c. nat_lt c 256) bs) e in (ltb-true b 256 z.0, small_raw bs z.1)

pub raw_none : (bs : List ℕ) → (raw bs ≡ None) ↔ NoBytes bs
unfolding raw
raw_none bs = (λ e all. raw_some bs all e, back (list_all (λ b. nat_lt b 256) bs) refl)
  where
    back : (x : Bool) → list_all (λ b. nat_lt b 256) bs ≡ x → NoBytes bs → raw bs ≡ None
    back true e h = absurd (h (small_raw bs e))
    back false e h = rw e refl

-- something after its length, by what it holds
pub framed_none_where : {P : Type 0} (p : Piece) → (p ≡ None) ↔ P → (framed p ≡ None) ↔ (P ⊎ ContentsTooLong p)
framed_none_where {P} p f = (
  λ e. elim (framed_cases p) [ inl h ↦ elim h.1.is [ inl n ↦ inl (f.0 n) | inr l ↦ inr l ] | inr h ↦ absurd (h.2.spelled e) ],
  λ h. framed_none p (record { is = elim h [ inl n ↦ inl (f.1 n) | inr l ↦ inr l ] }),
)

pub sized_none_by : {P : Type 0} (id : ℕ) (p : Piece) → (p ≡ None) ↔ P → (sized id p ≡ None) ↔ (P ⊎ ContentsTooLong p)
sized_none_by id p f = after_bytes (id ∷ []) (framed p) (framed_none_where p f)
