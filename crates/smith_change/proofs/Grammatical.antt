-- The alternatives of what is of the grammar are of the grammar.
use Rattle.std.proofs.Common.{◌≡◌, ℕ, ◌+◌, ◌-◌, ◌^◌, ◌<◌, ◌≤◌, Bool, true, false, not, Option, Some, None, ap, arith, sym, refl, nat_lt, ⊎_elim}
use Rattle.std.proofs.Common.{inl, inr, rules}
use Rattle.std.proofs.Common.{List, [], ◌++◌, codes}
use Rattle.std.proofs.lemmas.Bool.{eqb-false, ltb-true}
use Rattle.std.proofs.lemmas.Str.{IsUtf8-append, IsUtf8-nil, IsUtf8-from_ascii}
use Rattle.std.specs.Prelude.{if◌then◌else◌, ◌==◌}
use Rattle.std.specs.Option.{option_map}
use Rattle.std.specs.Str.{IsUtf8}
use Rattle.smith_format.specs.TooLong.{IsTooLarge, LimitsTooLong, MemoryTypeTooLong, TableTypeTooLong}
use Rattle.smith_format.specs.declared.types.MemoryType.{MemoryType}
use Rattle.smith_format.specs.declared.types.TableType.{TableType}
use Rattle.smith_syntax.specs.TooLong.{ComponentValTooLong}
use Rattle.smith_syntax.specs.declared.types.ComponentValType.{ComponentValType}
use Rattle.smith_syntax.specs.declared.types.ComponentValType.TheVariants.{Primitive, Indexed}
use Rattle.smith_syntax.specs.declared.types.PrimitiveValType.TheVariants as prim
use Rattle.smith_change.specs.Alternatives.{above, below, bounds_alternative, index_alternative, indexed_alternative, memory_alternative, most_bound}
use Rattle.smith_change.specs.Alternatives.{most_index}
use Rattle.smith_change.specs.Alternatives.{name_alternative, one_less, one_more, other_maximum, table_alternative}
use Rattle.smith_change.specs.Alternatives.{value_alternative}
use Rattle.smith_change.proofs.Differing.{if_cases, map_cases, only_is}

-- numbers

less_is : (n m : ℕ) → one_less n ≡ Some m → m + 1 ≡ n
less_is n m e = go (n == 0) refl e
  where
    go : (b : Bool) → (n == 0) ≡ b → (if b then None else Some (n - 1)) ≡ Some m → m + 1 ≡ n
    go true is e = absurd cc
    go false is e = let same : n - 1 ≡ m = cc in let some = eqb-false n 0 is in omega (arith, same, some)

more_is : (most n m : ℕ) → one_more most n ≡ Some m → m ≤ most
more_is most n m e = go (nat_lt n most) refl e
  where
    go : (b : Bool) → nat_lt n most ≡ b → (if b then Some (n + 1) else None) ≡ Some m → m ≤ most
    go true is e = let same : n + 1 ≡ m = cc in let lt = ltb-true n most is in omega (arith, same, lt)
    go false is e = absurd cc

pub index_stays_small : (a i j : ℕ) → index_alternative a i ≡ Some j → IsTooLarge j → IsTooLarge i
index_stays_small a i j e large =
    ⊎_elim (λ x. let is = less_is i j x in omega (arith, is, large))
    (λ e1. ⊎_elim (λ x. let few = more_is most_index i j x in absurd (omega (arith, few, large)))
    (λ e2. ⊎_elim (λ x. let is : most_index ≡ j = cc in absurd (omega (arith, is, large)))
    (λ e3. let is = only_is (a == 3) 0 j e3 in absurd (omega (arith, is, large)))
    (if_cases (a == 2) (Some most_index) _ j e2))
    (if_cases (a == 1) (one_more most_index i) _ j e1))
    (if_cases (a == 0) (one_less i) _ j e)

-- value types

indexed_stays_small : (a : ℕ) (v : ComponentValType) (j : ℕ) → indexed_alternative a v ≡ Some j → IsTooLarge j → ComponentValTooLong v
indexed_stays_small a (Indexed i) j e large = index_stays_small a i j e large
indexed_stays_small a (Primitive p) j e large =
    ⊎_elim (λ x. let is : most_index ≡ j = cc in absurd (omega (arith, is, large)))
    (λ e1. let is = only_is (a == 3) 0 j e1 in absurd (omega (arith, is, large)))
    (if_cases (a == 2) (Some most_index) _ j e)

pub value_stays_small : (a : ℕ) (v w : ComponentValType) → value_alternative a v ≡ Some w → ComponentValTooLong w → ComponentValTooLong v
value_stays_small a v w e large =
    ⊎_elim (λ x. let is : Primitive prim.String ≡ w = cc in absurd (rw (sym is) at large))
    (λ e1. ⊎_elim (λ x. let is : Primitive prim.U64 ≡ w = cc in absurd (rw (sym is) at large))
    (λ e2. let m = map_cases Indexed (indexed_alternative a v) w e2 in indexed_stays_small a v m.0 m.1 (rw (sym m.2) at large))
    (if_cases (a == 5) (Some (Primitive prim.U64)) _ w e1))
    (if_cases (a == 4) (Some (Primitive prim.String)) _ w e)

-- limits

bounds_stay_small : (past a minimum : ℕ) (maximum : Option ℕ) (b : ℕ × Option ℕ) → past < 2 ^ 64 → bounds_alternative past a minimum maximum ≡ Some b
    → LimitsTooLong b.0 b.1 → LimitsTooLong minimum maximum
bounds_stay_small past a minimum maximum b few e large =
    ⊎_elim (λ x. by_above maximum x)
    (λ e1. ⊎_elim (λ x. by_below maximum x)
    (λ e2. ⊎_elim (λ x. by_other maximum x)
    (λ e3. ⊎_elim (λ x. let is : (past, maximum) ≡ b = cc in ⊎_elim (λ h. absurd (omega (arith, few, h))) inr (rw (sym is) at large))
    (λ e4. let is = only_is (a == 4) (minimum, Some past) b e4 in ⊎_elim inl (λ h. absurd (omega (arith, few, h))) (rw (sym is) at large))
    (if_cases (a == 3) (Some (past, maximum)) _ b e3))
    (if_cases (a == 2) (Some (minimum, other_maximum minimum maximum)) _ b e2))
    (if_cases (a == 1) (option_map (λ n. (minimum, Some n)) (below minimum maximum)) _ b e1))
    (if_cases (a == 0) (option_map (λ n. (n, maximum)) (above maximum)) _ b e)
  where
    by_above : (o : Option ℕ) → option_map (λ n. (n, o)) (above o) ≡ Some b → LimitsTooLong minimum o
    by_above None x = absurd cc
    by_above (Some k) x =
        let m = map_cases (λ n. (n, Some k)) (one_more most_bound k) b x in
        let few = more_is most_bound k m.0 m.1 in
        ⊎_elim (λ h. absurd (omega (arith, few, h))) inr (rw (sym m.2) at large)

    by_below : (o : Option ℕ) → option_map (λ n. (minimum, Some n)) (below minimum o) ≡ Some b → LimitsTooLong minimum o
    by_below None x = absurd cc
    by_below (Some k) x =
        let m = map_cases (λ n. (minimum, Some n)) (one_less minimum) b x in
        let is = less_is minimum m.0 m.1 in
        ⊎_elim inl (λ h. inl (omega (arith, is, h))) (rw (sym m.2) at large)

    by_other : (o : Option ℕ) → Some (minimum, other_maximum minimum o) ≡ Some b → LimitsTooLong minimum o
    by_other None x = let is : (minimum, Some minimum) ≡ b = cc in ⊎_elim inl inl (rw (sym is) at large)
    by_other (Some k) x = let is : (minimum, None) ≡ b = cc in ⊎_elim inl (λ h. absurd h) (rw (sym is) at large)

pub memory_stays_small : (a : ℕ) (m n : MemoryType) → memory_alternative a m ≡ Some n → MemoryTypeTooLong n → MemoryTypeTooLong m
memory_stays_small a m n e large =
    ⊎_elim (λ x. let is : record m { shared = not m.shared } ≡ n = cc in rw (sym is) at large)
    (λ e1. ⊎_elim (λ x. let is : record m { memory64 = not m.memory64 } ≡ n = cc in rw (sym is) at large)
    (λ e2. let b = map_cases (λ b. record m { minimum = b.0; maximum = b.1 }) (bounds_alternative 65537 a m.minimum m.maximum) n e2 in
    bounds_stay_small 65537 a m.minimum m.maximum b.0 (omega arith) b.1 (rw (sym b.2) at large))
    (if_cases (a == 6) (Some (record m { memory64 = not m.memory64 })) _ n e1))
    (if_cases (a == 5) (Some (record m { shared = not m.shared })) _ n e)

pub table_stays_small : (a : ℕ) (t u : TableType) → table_alternative a t ≡ Some u → TableTypeTooLong u → TableTypeTooLong t
table_stays_small a t u e large =
    ⊎_elim (λ x. let is : record t { table64 = not t.table64 } ≡ u = cc in rw (sym is) at large)
    (λ e1. let b = map_cases (λ b. record t { minimum = b.0; maximum = b.1 }) (bounds_alternative 4294967296 a t.minimum t.maximum) u e1 in
    ⊎_elim inl (λ h. inr (bounds_stay_small 4294967296 a t.minimum t.maximum b.0 (omega arith) b.1 h)) (rw (sym b.2) at large))
    (if_cases (a == 6) (Some (record t { table64 = not t.table64 })) _ u e)

-- names

pub names_stay_utf8 : (a : ℕ) (n m : List ℕ) → name_alternative a n ≡ Some m → IsUtf8 n → IsUtf8 m
names_stay_utf8 a n m e text =
    ⊎_elim (λ x. is [] x IsUtf8-nil)
    (λ e1. ⊎_elim (λ x. is (n ++ codes "-") x (IsUtf8-append n (codes "-") text (IsUtf8-from_ascii (codes "-") (search rules))))
    (λ e2. ⊎_elim (λ x. is (n ++ codes "--a") x (IsUtf8-append n (codes "--a") text (IsUtf8-from_ascii (codes "--a") (search rules))))
    (λ e3. ⊎_elim (λ x. is (n ++ codes "_") x (IsUtf8-append n (codes "_") text (IsUtf8-from_ascii (codes "_") (search rules))))
    (λ e4. ⊎_elim (λ x. is (codes "1" ++ n) x (IsUtf8-append (codes "1") n (IsUtf8-from_ascii (codes "1") (search rules)) text))
    (λ e5. is (n ++ codes "-b1") (ap Some (only_is (a == 5) (n ++ codes "-b1") m e5))
    (IsUtf8-append n (codes "-b1") text (IsUtf8-from_ascii (codes "-b1") (search rules))))
    (if_cases (a == 4) (Some (codes "1" ++ n)) _ m e4))
    (if_cases (a == 3) (Some (n ++ codes "_")) _ m e3))
    (if_cases (a == 2) (Some (n ++ codes "--a")) _ m e2))
    (if_cases (a == 1) (Some (n ++ codes "-")) _ m e1))
    (if_cases (a == 0) (Some []) _ m e)
  where
    is : (o : List ℕ) → Some o ≡ Some m → IsUtf8 o → IsUtf8 m
    is o x h = let same : o ≡ m = cc in rw (sym same) h

pub ruleset alternatives = (index_stays_small, value_stays_small, memory_stays_small, table_stays_small, names_stay_utf8)
