-- What is kept of imports and exports.
use Rattle.std.proofs.Common.{◌≡◌, ℕ, ◌+◌, ◌<◌, ◌&&◌, not, Bool, true, false, List, [], ◌∷◌, ◌++◌, length, get_or, refl, sym, ap, ◌∙◌, subst, arith}
use Rattle.std.proofs.Common.{append_assoc}
use Rattle.std.proofs.Common.{Option, None, Some, append-nil, length-append}
use Rattle.std.proofs.Math.Seq.{get_or-append_seam}
use Rattle.std.proofs.lemmas.Bool.{ltb-false}
use Rattle.std.proofs.lemmas.Slice.Zip.{AllZip-long}
use Rattle.std.specs.List.{AllByRecursion}
use Rattle.std.specs.Option.{option_to_list}
use Rattle.smith_tree.specs.Bodies.{Body, empty_body}
use Rattle.smith_tree.specs.Facts.{Extern, Id}
use Rattle.smith_tree.specs.Validates.{RefersTo, exported, imported, names_of}
use Rattle.smith_validate.specs.Bodies.{AreExports, AreSets, IsFresh, IsRole}
use Rattle.smith_validate.specs.Deferring.{AreSettled, IsMetBy}
use Rattle.smith_validate.specs.Exposing.{IsMet, named_after, number_of, outside_at}
use Rattle.smith_validate.specs.Externs.{IsPiece}
use Rattle.smith_validate.specs.Instances.{AreOutward, Surface, Follow, IsInstanceType, IsKnown, IsTable, Piece, Rest, equal, externs_in, externs_of}
use Rattle.smith_validate.specs.Instances.{named_by, no_surface}
use Rattle.smith_validate.specs.Instances.{outside_of, reach, refers_of, single, uses_in, whole}
use Rattle.smith_validate.specs.Marks.{Covers, IsAbove, Within, both, closed_needs, greater_of, instance_facts, is_below}
use Rattle.smith_validate.specs.Nested.{IsDeclared, instance_plain}
use Rattle.smith_validate.specs.declared.body.Exported.{Exported}
use Rattle.smith_validate.specs.declared.body.Extern.{Extern as KeptExtern}
use Rattle.smith_validate.specs.declared.body.Role.{Role}
use Rattle.smith_validate.specs.declared.body.Role.TheVariants.{Names, Exporting}
use Rattle.smith_validate.specs.declared.body.Sets.{Sets}
use Rattle.smith_validate.specs.declared.facts.Needs.{Needs}
use Rattle.smith_validate.specs.declared.instances.InstanceType.{InstanceType}
use Rattle.smith_validate.specs.declared.instances.Use.{Use}
use Rattle.smith_validate.specs.declared.instances.Use.TheVariants.{Instance, Equal}
use Rattle.smith_validate.specs.declared.known.Known.{Known}
use Rattle.smith_validate.proofs.Covering.{above_left, above_right, covers_both, covers_closed, covers_unnamed, split}
use Rattle.smith_validate.proofs.Deferring.{are_more, are_sub}
use Rattle.smith_validate.proofs.Exposed.{both_at}
use Rattle.smith_validate.proofs.Names.{Sub, refers_of_append, refers_sub, sub_both, sub_left, sub_more, sub_right, sub_same, sub_then, sub_within}
use Rattle.smith_validate.proofs.Names.{within_append, within_sub}
use Rattle.smith_validate.proofs.Tables.{externs_in_more, follow_more, follow_sub, outward_more, rest_more, rest_sub, table_push}
use Rattle.smith_tree.proofs.Named.{names_of_both as names_append, refers_both as refers_append}

-- what is kept is only of what is imported and exported
pub role_of : (table : List Surface) (names : List (List Id)) (asks : Bool) (r : Role) (b c : Body) → b.imports ≡ c.imports → b.exports ≡ c.exports
    → IsRole table names asks r b → IsRole table names asks r c
role_of table names asks (Names s) b c i e h = grind arith
role_of table names asks (Exporting x) b c i e h = (h.0, subst (λ xs. AreExports table names x xs) e h.1)

pub role_more : (table more : List Surface) (names : List (List Id)) (asks : Bool) (r : Role) (b : Body) → IsRole table names asks r b
    → IsRole (table ++ more) names asks r b
role_more table more names asks (Names s) b h = (
  h.0,
  record {
    imported_are = are_more table more s.imported (imported b) h.1.imported_are;
    exported_are = are_more table more s.exported (exported b) h.1.exported_are;
  },
)
role_more table more names asks (Exporting x) b h =
    let a = h.1 in (
      h.0,
      record {
        outside = a.outside;
        pieces = a.pieces;
        externs_are = a.externs_are ∙ sym (externs_in_more table more a.outside a.pieces a.follow);
        uses_are = a.uses_are;
        follow = follow_more table more a.outside a.pieces a.follow;
        covered = a.covered;
        rest = λ o. rest_more table more a.outside a.pieces (a.rest o);
        outward = λ o. outward_more table more a.outside a.pieces a.follow (a.outward o);
        first = λ o. let f = a.first o in (f.0, are_more table more x.named (a.outside ++ names_of b.exports) f.1);
        none = a.none;
      },
    )

pub role_fresh : (table : List Surface) (names : List (List Id)) (asks : Bool) (r : Role) → IsFresh asks r → IsRole table names asks r empty_body
role_fresh table names asks (Names s) h = (h.0, record { imported_are = (h.1 table []).0; exported_are = (h.1 table []).1 })
role_fresh table names asks (Exporting x) h = (
  h.0,
  record {
    outside = [];
    pieces = [];
    externs_are = refl;
    uses_are = h.2;
    follow = tt;
    covered = tt;
    rest = λ a. tt;
    outward = λ a. tt;
    first = λ a. (tt, h.4 table []);
    none = λ a. refl;
  },
)

-- Pieces after others.
module _ (table : List Surface) where
  pub externs_append : (ps qs : List Piece) → externs_in table (ps ++ qs) ≡ externs_in table ps ++ externs_in table qs
  externs_append [] qs = refl
  externs_append (single x ∷ ps) qs = ap (λ xs. x ∷ xs) (externs_append ps qs)
  externs_append (whole n ∷ ps) qs =
      ap (λ xs. externs_of table n ++ xs) (externs_append ps qs) ∙ sym (append_assoc (externs_of table n) (externs_in table ps) (externs_in table qs))
  externs_append (equal n ns ∷ ps) qs = ap (λ xs. record { refers = refers_of (externs_of table n); names = ns } ∷ xs) (externs_append ps qs)

  names_first : (p : Piece) (ps : List Piece) → names_of (externs_in table (p ∷ ps)) ≡ named_by table p ++ names_of (externs_in table ps)
  names_first (single x) ps = refl
  names_first (whole n) ps = names_append (externs_of table n) (externs_in table ps)
  names_first (equal n ns) ps = refl

  pub follow_append : (named : List Id) (ps qs : List Piece) → Follow table named ps → Follow table (named ++ names_of (externs_in table ps)) qs
      → Follow table named (ps ++ qs)
  follow_append named [] qs f g = subst (λ ids. Follow table ids qs) (append-nil named) g
  follow_append named (p ∷ ps) qs f g = (
    f.0,
    f.1,
    follow_append (named ++ named_by table p) ps qs f.2
        (subst (λ ids. Follow table ids qs)
        (ap (λ ids. named ++ ids) (names_first p ps) ∙ sym (append_assoc named (named_by table p) (names_of (externs_in table ps)))) g),
  )

  outward_append : (ps qs : List Piece) → AreOutward table ps → AreOutward table qs → AreOutward table (ps ++ qs)
  outward_append [] qs f g = g
  outward_append (single x ∷ ps) qs f g = outward_append ps qs f g
  outward_append (whole n ∷ ps) qs f g = (f.0, outward_append ps qs f.1 g)
  outward_append (equal n ns ∷ ps) qs f g = (f.0, outward_append ps qs f.1 g)

  -- they refer to nothing that types of instances name
  outward_within : (named : List Id) (ps : List Piece) → Rest table named ps → AreOutward table ps → Within named (refers_of (externs_in table ps))
  outward_within named [] f o = tt
  outward_within named (single x ∷ ps) f o = within_append named x.refers (refers_of (externs_in table ps)) f.1 (outward_within named ps f.2 o)
  outward_within named (whole n ∷ ps) f o =
      let xs = externs_of table n in
      subst (λ ids. Within named ids) (sym (refers_of_append xs (externs_in table ps)))
      (within_append named (refers_of xs) (refers_of (externs_in table ps))
      (within_sub (outside_of table n) named (refers_of xs) (sub_within named (outside_of table n) f.1) o.0) (outward_within named ps f.2 o.1))
  outward_within named (equal n ns ∷ ps) f o =
      let ids = refers_of (externs_of table n) in
      within_append named ids (refers_of (externs_in table ps))
      (within_sub (outside_of table n) named ids (sub_within named (outside_of table n) f.1) o.0) (outward_within named ps f.2 o.1)

  pub rest_append : (named : List Id) (ps qs : List Piece) → Rest table named ps → Rest table named qs → Rest table named (ps ++ qs)
  rest_append named [] qs f g = g
  rest_append named (p ∷ ps) qs f g = (f.0, f.1, rest_append named ps qs f.2 g)

pub uses_append : (ps qs : List Piece) → uses_in (ps ++ qs) ≡ uses_in ps ++ uses_in qs
uses_append [] qs = refl
uses_append (single x ∷ ps) qs = uses_append ps qs
uses_append (whole n ∷ ps) qs = ap (λ us. Instance n ∷ us) (uses_append ps qs)
uses_append (equal n ns ∷ ps) qs = ap (λ us. Equal n ∷ us) (uses_append ps qs)

-- What is met if names are asked.

-- a piece that is of no type of instances
pub single_met : (table : List Surface) (p : Piece) (named : List Id) → uses_in (p ∷ []) ≡ [] → Within named (reach table p)
    → RefersTo named (externs_in table (p ∷ []))
single_met table (single x) named u w = (w, tt)
single_met table (whole n) named u w = absurd (let z : Instance n ∷ [] ≡ [] = u in cc)
single_met table (equal n ns) named u w = absurd (let z : Equal n ∷ [] ≡ [] = u in cc)

-- a piece of one
pub record UseOf (table : List Surface) (u : Use) (p : Piece) : Type 0 where
  pub known : number_of u < length table
  pub reach_is : reach table p ≡ outside_of table (number_of u)
  pub met : (named : List Id) → IsMet table u named → RefersTo named (externs_in table (p ∷ []))
  pub after : (named : List Id) → Sub (named_after table u named) (named ++ names_of (externs_in table (p ∷ [])))

pub use_of : (table : List Surface) (u : Use) (p : Piece) → uses_in (p ∷ []) ≡ u ∷ [] → IsKnown table p → UseOf table u p
use_of table u (single x) e k = absurd (let z : [] ≡ u ∷ [] = e in cc)
use_of table u (whole n) e k =
    let same : Instance n ≡ u = cc in
    let xs : List Extern = externs_of table n in
    let none : xs ≡ xs ++ [] = sym (append-nil xs) in
    let it : UseOf table (Instance n) (whole n) = record {
      known = k;
      reach_is = refl;
      met = λ named m. subst (λ ys. RefersTo named ys) none m;
      after = λ named. subst (λ ys. Sub (named ++ names_of xs) (named ++ names_of ys)) none (sub_same (named ++ names_of xs));
    } in
    subst (λ v. UseOf table v (whole n)) same it
use_of table u (equal n ns) e k =
    let same : Equal n ≡ u = cc in
    let it : UseOf table (Equal n) (equal n ns) = record {
      known = k;
      reach_is = refl;
      met = λ named m. (m, tt);
      after = λ named. sub_left named (ns ++ []);
    } in
    subst (λ v. UseOf table v (equal n ns)) same it

-- A piece of types of instances that refer to nothing that types of instances name.
module _ (table : List Surface) (all : List InstanceType) (ts : IsTable all table) where
  type_outward : (n : ℕ) → n < length table → outside_at all n ≡ true → Within (outside_of table n) (refers_of (externs_of table n))
  type_outward n h is =
      let e = both_at (IsInstanceType table) all table n no_surface ts h in
      e.is.outward (sym (ap (λ o. elim o as (λ x. Bool) [ None ↦ false | Some t ↦ t.refers_outside ]) e.at) ∙ is)

  piece_outward : (p : Piece) → IsKnown table p → AllByRecursion (λ u. outside_at all (number_of u) ≡ true) (uses_in (p ∷ [])) → AreOutward table (p ∷ [])
  piece_outward (single x) k h = tt
  piece_outward (whole n) k h = (type_outward n k h.0, tt)
  piece_outward (equal n ns) k h = (type_outward n k h.0, tt)

-- one more export of an instance type
module _ (table : List Surface) (names : List (List Id)) (e f : Exported) (xs ys : List Extern) (k : KeptExtern) where
  -- It is met where those before it are.
  use_first : (i : IsPiece table (names_of xs ∷ names) k ys) (named : List Id) → Within named (reach table i.piece) → (u : Option Use) → k.used ≡ u
      → IsMetBy table u f.named named → RefersTo named ys × AreSettled table f.named (named ++ names_of ys)
  use_first i named w None is m = (
    subst (λ zs. RefersTo named zs) (sym i.externs_are) (single_met table i.piece named (i.used_is ∙ ap option_to_list is) w),
    are_sub table f.named named (named ++ names_of ys) (sub_left named (names_of ys)) m,
  )
  use_first i named w (Some u) is m =
      let of = use_of table u i.piece (i.used_is ∙ ap option_to_list is) i.known in
      let met = m of.known (subst (λ ids. Within named ids) of.reach_is w) in (
        subst (λ zs. RefersTo named zs) (sym i.externs_are) (of.met named met.met),
        subst (λ zs. AreSettled table f.named (named ++ names_of zs)) (sym i.externs_are)
            (are_sub table f.named (named_after table u named) (named ++ names_of (externs_in table (i.piece ∷ []))) (of.after named) met.settled),
      )

  pub exports_push : (all : List InstanceType) → IsTable all table → AreExports table names e xs → IsPiece table (names_of xs ∷ names) k ys → f.refers ≡ both
      e.refers k.refers
      → f.uses.items ≡ e.uses.items ++ option_to_list k.used → f.any ≡ true
      → (f.refers_outside ≡ true → (e.refers_outside ≡ true) × AllByRecursion (λ u. outside_at all (number_of u) ≡ true) (option_to_list k.used))
      → ((named : List Id) → f.names_first ≡ true
      → (e.names_first ≡ true) × (AreSettled table e.named named → IsMetBy table k.used f.named named))
      → AreExports table names f (xs ++ ys)
  exports_push all ts a i refers uses any outward first =
      let s = split (names_of xs) names k.refers (reach table i.piece) i.covered in
      let out = a.outside ++ s.outside in
      let one = i.piece ∷ [] in
      let here = names_of (externs_in table a.pieces) in
      let same : names_of xs ≡ here = ap names_of a.externs_are in
      let wide : Sub (s.outside ++ names_of xs) (out ++ here) =
      sub_both s.outside (names_of xs) (out ++ here) (sub_then s.outside out (out ++ here) (sub_right a.outside s.outside) (sub_left out here))
      (subst (λ ids. Sub ids (out ++ here)) (sym same) (sub_right out here)) in
      let within = within_sub (s.outside ++ names_of xs) (out ++ here) (reach table i.piece) wide s.within in
      let before = out ++ names_of xs in
      record {
        outside = out;
        pieces = a.pieces ++ one;
        externs_are = ap (λ zs. zs ++ ys) a.externs_are ∙ (ap (λ zs. externs_in table a.pieces ++ zs) i.externs_are ∙ sym (externs_append table a.pieces one));
        uses_are = uses ∙ (ap (λ us. us ++ option_to_list k.used) a.uses_are
            ∙ (ap (λ us. uses_in a.pieces ++ us) (sym i.used_is) ∙ sym (uses_append a.pieces one)));
        follow = follow_append table out a.pieces one (follow_sub table a.outside out a.pieces (sub_left a.outside s.outside) a.follow)
            (i.known, within, tt);
        covered = subst (λ n. Covers names n out) (sym refers) (covers_both names e.refers k.refers a.outside s.outside a.covered s.covered);
        rest = λ h.
            let up : IsAbove (greater_of e.refers.innermost k.refers.innermost) (length names) = subst (λ n. IsAbove n.innermost (length names)) refers h in
            rest_append table out a.pieces one
            (rest_sub table a.outside out a.pieces (sub_left a.outside s.outside)
            (a.rest (above_left e.refers.innermost k.refers.innermost (length names) up))) (
              i.known,
              within_sub s.outside out (reach table i.piece) (sub_right a.outside s.outside)
                  (s.all (above_right e.refers.innermost k.refers.innermost (length names) up)),
              tt,
            );
        outward = λ h.
            let o = outward h in
            outward_append table a.pieces one (a.outward o.0)
            (piece_outward table all ts i.piece i.known (subst (λ us. AllByRecursion (λ u. outside_at all (number_of u) ≡ true) us) (sym i.used_is) o.1));
        first = λ h.
            let g = first before h in
            let was = a.first g.0 in
            let settled = are_sub table e.named (a.outside ++ names_of xs) before
            (sub_more a.outside out (names_of xs) (sub_left a.outside s.outside)) was.1 in
            let then = use_first i before (subst (λ ids. Within (out ++ ids) (reach table i.piece)) (sym same) within) k.used refl (g.1 settled) in (
              refers_append out xs ys (refers_sub a.outside out xs (sub_left a.outside s.outside) was.0) then.0,
              subst (λ ids. AreSettled table f.named ids) (append_assoc out (names_of xs) (names_of ys) ∙ ap (λ ids. out ++ ids) (sym (names_append xs ys)))
                  then.1,
            );
        none = λ h. absurd (let z : true ≡ false = sym any ∙ h in cc);
      }

-- An instance type is closed.

above_by : (i : Option ℕ) (depth level : ℕ) → is_below i depth ≡ false → level ≡ depth + 1 → IsAbove i level
above_by None depth level h e = tt
above_by (Some k) depth level h e = let b = ltb-false depth k h in omega (arith, b, e)

both_true : (a b : Bool) → (a && not b) ≡ true → (a ≡ true) × (b ≡ false)
both_true true true h = absurd (let z : false ≡ true = h in cc)
both_true true false h = (refl, refl)
both_true false b h = absurd (let z : false ≡ true = h in cc)

module _ (table : List Surface) (here : List Id) (names : List (List Id)) (e : Exported) (b : Body) (depth : ℕ) (t : InstanceType) (refers : Needs) where
  pub instance_closed : (old new : Known) (id : Id) (size number : ℕ) → AreExports table (here ∷ names) e b.exports → length names ≡ depth
      → refers ≡ closed_needs e.refers depth
      → t.uses.items ≡ e.uses.items → t.refers_to_own ≡ is_below e.refers.innermost depth
      → t.refers_outside ≡ (e.refers_outside && not (is_below e.refers.innermost depth)) → t.names_first ≡ e.names_first
      → IsTable old.instances.items table
      → number ≡ length old.instances.items → new.instances.items ≡ old.instances.items ++ t ∷ []
      → IsDeclared table (here ∷ names) new (instance_facts refers size number) (instance_plain id b)
  instance_closed old new id size number a d refs uses own outward first ts n pushed =
      let x : Surface = record { externs = b.exports; outside = a.outside; place = id } in
      let long : length table ≡ number = AllZip-long (IsInstanceType table) old.instances.items table ts ∙ sym n in
      let at : get_or (table ++ x ∷ []) number no_surface ≡ x =
      ap (λ k. get_or (table ++ x ∷ []) k no_surface) (sym long) ∙ get_or-append_seam table x [] no_surface in
      let above : (i : Option ℕ) → is_below i depth ≡ false → IsAbove i (length (here ∷ names)) =
      λ i h. above_by i depth (length (here ∷ names)) h (omega (arith, d)) in
      let type : IsInstanceType table t x = record {
        pieces = a.pieces;
        externs_are = a.externs_are;
        uses_are = uses ∙ a.uses_are;
        follow = a.follow;
        rest = λ o. a.rest (above e.refers.innermost (sym own ∙ o));
        outward = λ o.
            let h = both_true e.refers_outside (is_below e.refers.innermost depth) (sym outward ∙ o) in
            subst (λ zs. Within a.outside (refers_of zs)) (sym a.externs_are)
            (outward_within table a.outside a.pieces (a.rest (above e.refers.innermost h.1)) (a.outward h.0));
        first = λ o. (a.first (sym first ∙ o)).0;
      } in
      record {
        more = x ∷ [];
        instances_are = subst (λ us. IsTable us (table ++ x ∷ [])) (sym pushed) (table_push old.instances.items table t x ts type);
        is = record {
          nominal_is = refl;
          needs_are = covers_unnamed (here ∷ names) None (refers_of b.exports);
          refers_are = subst (λ r. Covers (here ∷ names) r (outside_of (table ++ x ∷ []) number)) (sym refs)
              (subst (λ y. Covers (here ∷ names) (closed_needs e.refers depth) y.outside) (sym at)
              (covers_closed (here ∷ names) depth (omega (arith, d)) e.refers a.outside a.covered));
          instance_is = (omega (arith, long, length-append table (x ∷ [])), sym (ap (λ y. y.externs) at), ap (λ y. refers_of y.externs) (sym at));
        };
      }

pub sets_of : (table : List Surface) (s : Sets) (b c : Body) → b.imports ≡ c.imports → b.exports ≡ c.exports → AreSets table s b → AreSets table s c
sets_of table s b c i e h = (role_of table [] true (Names s) b c i e (refl, h)).1
