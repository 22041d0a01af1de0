-- What is read is what is spelled: types of values and of functions.
use Rattle.std.proofs.Common.{◌≡◌, ℕ, ◌<◌, ◌≤◌, ◌⊎◌, inl, inr, List, [], ◌∷◌, Option, Some, None, refl, ap, sym, ◌∙◌, subst, arith}
use Rattle.std.proofs.Common.{lit<}
use Rattle.smith_format.specs.Piece.{Piece, ◌⊕◌, byte, bytes, text, many}
use Rattle.smith_format.proofs.Clear.{s_index_head}
use Rattle.smith_format.proofs.Piece.{joined}
use Rattle.smith_syntax.specs.Entries.{Case, Signature}
use Rattle.smith_syntax.specs.Entries.{DefValType, primitive_type, record_type, variant_type, list_type, tuple_type, flags_type, enum_type, option_type}
use Rattle.smith_syntax.specs.Entries.{result_type}
use Rattle.smith_syntax.specs.Grammar.{primvaltype, valtype, maybe_valtype, labelvaltype, case, resultlist, defvaltype}
use Rattle.smith_syntax.specs.declared.types.ComponentValType.{ComponentValType}
use Rattle.smith_syntax.specs.declared.types.ComponentValType.TheVariants.{Primitive, Indexed}
use Rattle.smith_syntax.specs.declared.types.PrimitiveValType.{PrimitiveValType}
use Rattle.smith_syntax.specs.declared.types.PrimitiveValType.TheVariants as prim
use Rattle.smith_read.specs.Reading.{◌>>=◌, byte_at, text_at, both_at, skip_at}
use Rattle.smith_read.specs.Tells.{Begins, Tells}
use Rattle.smith_read.specs.Types.{primitive_of, val_at, valtype_at, maybe_valtype_at, field_at, case_at, result_at, primitive_at, defined_after}
use Rattle.smith_read.specs.Types.{signature_of, function_at}
use Rattle.smith_read.proofs.Digits.{byte_is}
use Rattle.smith_read.proofs.Telling.{bind_some, chain, nothing, byte_begins, byte_read, skip_begins, skip_read, both_begin, parted, tells_index}
use Rattle.smith_read.proofs.Telling.{tells_text, tells_both, tells_seen, tells_many, row_sound, row_whole, seen_is, first_byte, index_byte}
use Rattle.smith_syntax.proofs.Clear.{primitive_range}
use Rattle.std.proofs.lemmas.Option.{same_Some}

-- ---- primitive types

primitive_sound : (n : ℕ) (p : PrimitiveValType) → primitive_of n ≡ Some p → n ≡ primvaltype p
unfolding primitive_of
primitive_sound n p =
    let at : (q : PrimitiveValType) → n ≡ primvaltype q → Some q ≡ Some p → n ≡ primvaltype p = λ q f e. f ∙ ap primvaltype (same_Some q p e) in
    chain n 0x7f _ _ p (at prim.Bool)
    (chain n 0x7e _ _ p (at prim.S8) (chain n 0x7d _ _ p (at prim.U8) (chain n 0x7c _ _ p (at prim.S16) (chain n 0x7b _ _ p (at prim.U16)
    (chain n 0x7a _ _ p (at prim.S32)
    (chain n 0x79 _ _ p (at prim.U32) (chain n 0x78 _ _ p (at prim.S64) (chain n 0x77 _ _ p (at prim.U64) (chain n 0x76 _ _ p (at prim.F32)
    (chain n 0x75 _ _ p (at prim.F64) (chain n 0x74 _ _ p (at prim.Char) (chain n 0x73 _ _ p (at prim.String) (nothing p)))))))))))))

primitive_whole : (p : PrimitiveValType) → primitive_of (primvaltype p) ≡ Some p
unfolding primitive_of
primitive_whole prim.Bool = refl
primitive_whole prim.S8 = refl
primitive_whole prim.U8 = refl
primitive_whole prim.S16 = refl
primitive_whole prim.U16 = refl
primitive_whole prim.S32 = refl
primitive_whole prim.U32 = refl
primitive_whole prim.S64 = refl
primitive_whole prim.U64 = refl
primitive_whole prim.F32 = refl
primitive_whole prim.F64 = refl
primitive_whole prim.Char = refl
primitive_whole prim.String = refl

-- other bytes begin no primitive type
primitive_none : (n : ℕ) → (n < 64) ⊎ (128 ≤ n) → primitive_of n ≡ None
primitive_none n h = by_case (primitive_of n) refl
  where
    by_case : (r : Option PrimitiveValType) → primitive_of n ≡ r → r ≡ None
    by_case None e = refl
    by_case (Some p) e = let f = primitive_sound n p e in let r = primitive_range p in
        elim h [ inl l ↦ absurd (omega (arith, r.0)) | inr l ↦ absurd (omega (arith, r.1)) ]

-- ---- value types

val_cases : (b : List ℕ) (t : ℕ × List ℕ) (x : ComponentValType × List ℕ) (o : Option PrimitiveValType) → byte_at b ≡ Some t → primitive_of t.0 ≡ o
    → val_at b t.1 o ≡ Some x → Begins valtype b x
val_cases b t x (Some p) e f g = subst (λ (y : ComponentValType × List ℕ). Begins valtype b y) (same_Some (Primitive p, t.1) x g)
    (ap (λ m. byte m ⊕ Some t.1) (sym (primitive_sound t.0 p f)) ∙ byte_begins b t e)
val_cases b t x None e f g = grind (arith, seen_is, tells_index)

val_read : (b : List ℕ) (v : ComponentValType) (rest : List ℕ) → Begins valtype b (v, rest) → valtype_at b ≡ Some (v, rest)
unfolding valtype_at
val_read b (Primitive p) rest e = rw (byte_read b (primvaltype p, rest) (let r = primitive_range p in omega (arith, r.1)) e, primitive_whole p) refl
val_read b (Indexed i) rest e =
    let h = s_index_head i (Some rest) b e in
    let w = tells_index.whole b (i, rest) e in
    let l = index_byte b (i, rest) w in
    let n : primitive_of l.0.0 ≡ None = primitive_none l.0.0
    (let a = byte_is b l.0.1 l.0.0 l.1 in let c : h.0 ≡ l.0.0 = ap first_byte (sym h.2 ∙ a.0) in
    elim h.3 [ inl k ↦ inl (omega arith) | inr k ↦ inr (omega arith) ]) in
    rw (l.1, n, w) refl

pub tells_val : Tells valtype valtype_at
unfolding valtype_at
tells_val = grind (arith, bind_some, val_cases, val_read)

maybe_read : (b : List ℕ) (v : Option ComponentValType) (rest : List ℕ) → Begins maybe_valtype b (v, rest) → maybe_valtype_at b ≡ Some (v, rest)
unfolding maybe_valtype_at
maybe_read b None rest e = rw (byte_read b (0, rest) (lit< tt) e) refl
maybe_read b (Some v) rest e = let r = row_whole Some 1 (lit< tt) tells_val b v rest e in rw (r.front, r.is) refl

-- nothing, after its byte
none_sound : (n : ℕ) (b : List ℕ) (t : ℕ × List ℕ) (x : Option ComponentValType × List ℕ) → byte_at b ≡ Some t → t.0 ≡ n → Some (None, t.1) ≡ Some x
    → (x.0 ≡ None) × (byte n ⊕ Some x.1 ≡ Some b)
none_sound n b t x e f g = subst (λ (y : Option ComponentValType × List ℕ). (y.0 ≡ None) × (byte n ⊕ Some y.1 ≡ Some b)) (same_Some (None, t.1) x g)
    (refl, ap (λ m. byte m ⊕ Some t.1) (sym f) ∙ byte_begins b t e)

pub tells_maybe : Tells maybe_valtype maybe_valtype_at
unfolding maybe_valtype_at
tells_maybe = record {
  sound = λ b x e.
      let t = bind_some (byte_at b) _ x e in
      chain t.0.0 0 _ _ x (λ f g. let n = none_sound 0 b t.0 x t.1 f g in ap (λ v. maybe_valtype v ⊕ Some x.1) n.0 ∙ n.1)
      (chain t.0.0 1 _ _ x (row_sound maybe_valtype Some 1 tells_val (λ v. refl) b t.0 x t.1) (nothing x)) t.2;
  whole = λ b x e. maybe_read b x.0 x.1 e;
}

pub tells_field : Tells labelvaltype field_at
unfolding field_at
tells_field = tells_both tells_text tells_val

case_read : (b : List ℕ) (c : Case) (rest : List ℕ) → Begins case b (c, rest) → case_at b ≡ Some (c, rest)
unfolding case_at
case_read b c rest e =
    let p = parted (text c.0) (maybe_valtype c.1 ⊕ byte 0x00) b rest e in
    let q = parted (maybe_valtype c.1) (byte 0x00) p.mid rest p.back in
    rw (tells_text.whole b (c.0, p.mid) p.front, tells_maybe.whole p.mid (c.1, q.mid) q.front, skip_read 0 q.mid rest (lit< tt) q.back) refl

pub tells_case : Tells case case_at
unfolding case_at
tells_case = record {
  sound = λ b x e.
      let n = bind_some (text_at b) (λ n. maybe_valtype_at n.1 >>= λ v. skip_at 0x00 v.1 >>= λ rest. Some ((n.0, v.0), rest)) x e in
      let v = bind_some (maybe_valtype_at n.0.1) (λ v. skip_at 0x00 v.1 >>= λ rest. Some ((n.0.0, v.0), rest)) x n.2 in
      let z = bind_some (skip_at 0x00 v.0.1) (λ rest. Some ((n.0.0, v.0.0), rest)) x v.2 in
      subst (λ (y : Case × List ℕ). Begins case b y) (same_Some ((n.0.0, v.0.0), z.0) x z.2)
      (both_begin (text n.0.0) (maybe_valtype v.0.0 ⊕ byte 0x00) b n.0.1 z.0 (tells_text.sound b n.0 n.1)
      (both_begin (maybe_valtype v.0.0) (byte 0x00) n.0.1 v.0.1 z.0 (tells_maybe.sound n.0.1 v.0 v.1) (skip_begins 0 v.0.1 z.0 z.1)));
  whole = λ b x e. case_read b x.0 x.1 e;
}

two : byte 0x01 ⊕ byte 0x00 ≡ bytes (0x01 ∷ 0x00 ∷ [])
two = joined (1 ∷ []) (0 ∷ [])

result_read : (b : List ℕ) (v : Option ComponentValType) (rest : List ℕ) → Begins resultlist b (v, rest) → result_at b ≡ Some (v, rest)
unfolding result_at
result_read b None rest e =
    let p = parted (byte 1) (byte 0) b rest (ap (λ p. p ⊕ Some rest) two ∙ e) in
    rw (byte_read b (1, p.mid) (lit< tt) p.front, skip_read 0 p.mid rest (lit< tt) p.back) refl
result_read b (Some v) rest e = let r = row_whole Some 0 (lit< tt) tells_val b v rest e in rw (r.front, r.is) refl

result_none : (b : List ℕ) (t : ℕ × List ℕ) (x : Option ComponentValType × List ℕ) → byte_at b ≡ Some t → t.0 ≡ 1
    → (skip_at 0 t.1 >>= λ rest. Some (None, rest)) ≡ Some x → Begins resultlist b x
result_none b t x e f g =
    let r = bind_some (skip_at 0 t.1) (λ rest. Some (None, rest)) x g in
    subst (λ (y : Option ComponentValType × List ℕ). Begins resultlist b y) (same_Some (None, r.0) x r.2)
    (ap (λ p. p ⊕ Some r.0) (sym two) ∙ both_begin (byte 1) (byte 0) b t.1 r.0 (ap (λ m. byte m ⊕ Some t.1) (sym f) ∙ byte_begins b t e)
    (skip_begins 0 t.1 r.0 r.1))

pub tells_result : Tells resultlist result_at
unfolding result_at
tells_result = record {
  sound = λ b x e.
      let t = bind_some (byte_at b) _ x e in
      chain t.0.0 0 _ _ x (row_sound resultlist Some 0 tells_val (λ v. refl) b t.0 x t.1)
      (chain t.0.0 1 _ _ x (result_none b t.0 x t.1) (nothing x)) t.2;
  whole = λ b x e. result_read b x.0 x.1 e;
}

-- ---- types of values

tells_outcome : Tells (λ (x : Option ComponentValType × Option ComponentValType). maybe_valtype x.0 ⊕ maybe_valtype x.1)
    (both_at maybe_valtype_at maybe_valtype_at)
tells_outcome = tells_both tells_maybe tells_maybe

primitive_begins : (b : List ℕ) (t : ℕ × List ℕ) (x : DefValType × List ℕ) (o : Option PrimitiveValType) → byte_at b ≡ Some t → primitive_of t.0 ≡ o
    → primitive_at o t.1 ≡ Some x → Begins defvaltype b x
primitive_begins b t x (Some p) e f g = subst (λ (y : DefValType × List ℕ). Begins defvaltype b y) (same_Some (primitive_type p, t.1) x g)
    (ap (λ m. byte m ⊕ Some t.1) (sym (primitive_sound t.0 p f)) ∙ byte_begins b t e)
primitive_begins b t x None e f g = absurd cc

pub defined_begins : (b : List ℕ) (t : ℕ × List ℕ) (x : DefValType × List ℕ) → byte_at b ≡ Some t → defined_after t.0 t.1 ≡ Some x → Begins defvaltype b x
unfolding defined_after
defined_begins b t x e =
    chain t.0 0x72 _ _ x (row_sound defvaltype record_type 0x72 (tells_many tells_field) (λ v. refl) b t x e)
    (chain t.0 0x71 _ _ x (row_sound defvaltype variant_type 0x71 (tells_many tells_case) (λ v. refl) b t x e)
    (chain t.0 0x70 _ _ x (row_sound defvaltype list_type 0x70 tells_val (λ v. refl) b t x e)
    (chain t.0 0x6f _ _ x (row_sound defvaltype tuple_type 0x6f (tells_many tells_val) (λ v. refl) b t x e)
    (chain t.0 0x6e _ _ x (row_sound defvaltype flags_type 0x6e (tells_many tells_text) (λ v. refl) b t x e)
    (chain t.0 0x6d _ _ x (row_sound defvaltype enum_type 0x6d (tells_many tells_text) (λ v. refl) b t x e)
    (chain t.0 0x6b _ _ x (row_sound defvaltype option_type 0x6b tells_val (λ v. refl) b t x e)
    (chain t.0 0x6a _ _ x (row_sound defvaltype (λ y. result_type y.0 y.1) 0x6a tells_outcome (λ v. refl) b t x e)
    (primitive_begins b t x (primitive_of t.0) e refl))))))))

pub defined_read : (b : List ℕ) (d : DefValType) (rest : List ℕ) → Begins defvaltype b (d, rest)
    → (t : ℕ × List ℕ) × (byte_at b ≡ Some t) × (defined_after t.0 t.1 ≡ Some (d, rest))
unfolding defined_after
defined_read b (primitive_type p) rest e =
    ((primvaltype p, rest), byte_read b (primvaltype p, rest) (let r = primitive_range p in omega (arith, r.1)) e, after p)
  where
    after : (p : PrimitiveValType) → defined_after (primvaltype p) rest ≡ Some (primitive_type p, rest)
    after prim.Bool = rw (primitive_whole prim.Bool) refl
    after prim.S8 = rw (primitive_whole prim.S8) refl
    after prim.U8 = rw (primitive_whole prim.U8) refl
    after prim.S16 = rw (primitive_whole prim.S16) refl
    after prim.U16 = rw (primitive_whole prim.U16) refl
    after prim.S32 = rw (primitive_whole prim.S32) refl
    after prim.U32 = rw (primitive_whole prim.U32) refl
    after prim.S64 = rw (primitive_whole prim.S64) refl
    after prim.U64 = rw (primitive_whole prim.U64) refl
    after prim.F32 = rw (primitive_whole prim.F32) refl
    after prim.F64 = rw (primitive_whole prim.F64) refl
    after prim.Char = rw (primitive_whole prim.Char) refl
    after prim.String = rw (primitive_whole prim.String) refl
defined_read b (record_type fs) rest e = let r = row_whole record_type 0x72 (lit< tt) (tells_many tells_field) b fs rest e in ((0x72, r.after), r.front, r.is)
defined_read b (variant_type cs) rest e = let r = row_whole variant_type 0x71 (lit< tt) (tells_many tells_case) b cs rest e in ((0x71, r.after), r.front, r.is)
defined_read b (list_type v) rest e = let r = row_whole list_type 0x70 (lit< tt) tells_val b v rest e in ((0x70, r.after), r.front, r.is)
defined_read b (tuple_type vs) rest e = let r = row_whole tuple_type 0x6f (lit< tt) (tells_many tells_val) b vs rest e in ((0x6f, r.after), r.front, r.is)
defined_read b (flags_type ns) rest e = let r = row_whole flags_type 0x6e (lit< tt) (tells_many tells_text) b ns rest e in ((0x6e, r.after), r.front, r.is)
defined_read b (enum_type ns) rest e = let r = row_whole enum_type 0x6d (lit< tt) (tells_many tells_text) b ns rest e in ((0x6d, r.after), r.front, r.is)
defined_read b (option_type v) rest e = let r = row_whole option_type 0x6b (lit< tt) tells_val b v rest e in ((0x6b, r.after), r.front, r.is)
defined_read b (result_type ok err) rest e = let r = row_whole (λ y. result_type y.0 y.1) 0x6a (lit< tt) tells_outcome b (ok, err) rest e in
    ((0x6a, r.after), r.front, r.is)

-- ---- types of functions, after their byte

abbrev pub function_body : Signature → Piece
function_body s = many labelvaltype s.params ⊕ resultlist s.result

pub tells_function : Tells function_body function_at
unfolding function_at
tells_function = tells_seen signature_of (λ s. (s.params, s.result)) (λ s. refl) (λ x. refl) (tells_both (tells_many tells_field) tells_result)
