-- Canonical sections make as many functions as they must, if one can be lowered and there is room for the types that lifts define.
use Rattle.std.proofs.Common.{◌≡◌, ℕ, ◌+◌, ◌-◌, ◌<◌, ◌≤◌, Bool, true, false, List, [], ◌∷◌, length, length-append, sym, ap, ◌∙◌, subst, arith, nat_lt}
use Rattle.std.proofs.lemmas.Bool.{false≢true}
use Rattle.std.proofs.lemmas.Bool.Decides.{nat_tests}
use Rattle.smith_input.specs.Offers.{offers_of}
use Rattle.smith_format.specs.declared.config.Config.{Config}
use Rattle.smith_syntax.specs.Entries.{Entry, Signature, function}
use Rattle.smith_component.specs.Canonicals.{Growing, grown, spaces_at, with_canon, with_defined, NoCanon, empty_section, ReadsCanons}
use Rattle.smith_tree.specs.Offers.{scalar_functions}
use Rattle.smith_component.specs.Tables.{IsGrounded}
use Rattle.smith_tree.specs.Spaces.{spaces_of, types_of}
use Rattle.smith_tree.specs.Tree.{Canon, lift, Tree, canons, function_count}
use Rattle.smith_tree.specs.WellFormed.{FormedCanon}
use Rattle.smith_tree.specs.declared.choices.CanonItem.{CanonItem}
use Rattle.smith_tree.specs.declared.choices.CanonItem.TheVariants.{Lower, Lift}
use Rattle.smith_component.proofs.Growth.{canon_keeps, spaces-add, spaces_canon}
use Rattle.smith_component.proofs.Spaces.{Grounded, grounded_spaces, grounded_entries, grounded_canon, formed_names}
use Rattle.smith_component.proofs.Spaces.{scalars_entries, scalars_grow}
use Rattle.smith_component.proofs.ReadsCanons.{Defines, Turned, adds, defines, gives_up, turned, with_signature, spaces_signature, canon_count, signature_count}
use Rattle.smith_component.proofs.Loops.{loop_reaches}
use Rattle.smith_component.proofs.ReadsCanons.{empty_count, defined_canon}

-- All stays grounded.

canon_grounds : (s : Growing) (c : Canon) → FormedCanon (spaces_at s) c → Grounded (spaces_at s) → Grounded (spaces_at (with_canon s c))
canon_grounds s c h g = subst Grounded (sym (spaces_canon s.before s.funcs c)) (grounded_canon (spaces_at s) c (formed_names (spaces_at s) c h) g)

signature_grounds : (s : Growing) (signature : Signature) → Grounded (spaces_at s) → Grounded (spaces_at (with_signature s signature))
signature_grounds s signature g = subst Grounded (sym (spaces_signature s signature)) (grounded_entries (spaces_at s) (function signature ∷ []) g)

empty_grounds : (t : Tree) → IsGrounded t → Grounded (spaces_at (empty_section t))
empty_grounds t g = subst Grounded (sym (spaces-add t (canons []))) (grounded_spaces t g)

-- What holds while functions are filled: while fewer turns are made than must be, each adds a function, and there is room for a type.
record Filling (config : Config) (least : ℕ) (t : Tree) (n : ℕ) (s : Growing) : Type 0 where
  pub grounded : Grounded (spaces_at s)
  pub some : 0 < length (scalar_functions (spaces_at s))
  pub room : length (spaces_at s).types + (least - n) ≤ config.max_types
  pub enough : function_count t + n ≤ function_count (grown s) + (n - least)

some_items : (z : Bool) (m : ℕ) → z ≡ true → offers_of ((z, Lower) ∷ (nat_lt 0 m, Lift) ∷ []) ≡ [] → ⊥
some_items true m e h = absurd (cc)
some_items false m e h = absurd (false≢true e)

module _ (config : Config) (least : ℕ) (t : Tree) where
  filling_ends : (n : ℕ) (s : Growing) (b r : List ℕ) (u : Growing) → Filling config least t n s → NoCanon s b r u → ⊥
  filling_ends n s b r u f (none, left, e) =
      let h : 0 < length (scalar_functions (spaces_at s)) = f.some in
      let z : nat_lt 0 (length (scalar_functions (spaces_at s))) ≡ true = grind (arith, nat_tests) in
      some_items (nat_lt 0 (length (scalar_functions (spaces_at s)))) (length (spaces_at s).core_functions) z none

  filling_canon : (n : ℕ) (s : Growing) (c : Canon) → FormedCanon (spaces_at s) c → length (spaces_at s).types + (least - (n + 1)) ≤ config.max_types
      → Filling config least t n s → Filling config least t (n + 1) (with_canon s c)
  filling_canon n s c h room f =
      let e = spaces_canon s.before s.funcs c in
      record {
        grounded = canon_grounds s c h f.grounded;
        some = omega (arith, f.some, scalars_grow (spaces_at s) c, ap (λ z. length (scalar_functions z)) e);
        room = omega (arith, room, ap (λ z. length z.types) e, ap length (canon_keeps (spaces_at s) c).types);
        enough = omega (arith, f.enough, canon_count s c);
      }

  filling_signature : (n : ℕ) (s : Growing) (c : ℕ) (signature : Signature) → Defines config s c signature → Filling config least t n s
      → Filling config least t (n + 1) (with_defined s c signature)
  filling_signature n s c signature d f =
      let es : List Entry = function signature ∷ [] in
      let u : Growing = with_signature s signature in
      let k : Canon = lift c (length (spaces_at s).types) in
      let e = spaces_signature s signature in
      let a = spaces_canon u.before u.funcs k in
      let grounded = signature_grounds s signature f.grounded in
      let scalars : length (scalar_functions (spaces_at u)) ≡ length (scalar_functions (spaces_at s)) = ap (λ z. length (scalar_functions z)) e
      ∙ ap length (scalars_entries (spaces_at s) es f.grounded) in
      let count : length (spaces_at u).types ≡ length (spaces_at s).types + 1 =
      omega (arith, ap (λ z. length z.types) e, length-append (spaces_at s).types es) in
      record {
        grounded = canon_grounds u k (defined_canon d) grounded;
        some = omega (arith, f.some, scalars, scalars_grow (spaces_at u) k, ap (λ z. length (scalar_functions z)) a);
        room = omega (arith, f.room, d.room, count, ap (λ z. length z.types) a);
        enough = omega (arith, f.enough, signature_count s signature, canon_count u k);
      }

  filling_turn : (n : ℕ) (s next : Growing) → Filling config least t n s → Turned config s next → Filling config least t (n + 1) next
  filling_turn n s next f (adds c h e) = subst (Filling config least t (n + 1)) (sym e) (filling_canon n s c h (omega (arith, f.room)) f)
  filling_turn n s next f (defines c signature d e) = subst (Filling config least t (n + 1)) (sym e) (filling_signature n s c signature d f)
  filling_turn n s next f (gives_up full e) =
      subst (Filling config least t (n + 1)) (sym e) (record
      { grounded = f.grounded; some = f.some; room = omega (arith, f.room); enough = omega (arith, f.enough, f.room, full) })

  -- As many functions are added as must be, if one can be lowered and there is room for the types that lifts define.
  pub canons_enough : {b : List ℕ} {turns : List CanonItem} {rest : List ℕ} {next : Growing} → ReadsCanons config least t b turns rest next → IsGrounded t
      → least ≤ config.max_funcs - function_count t → 0 < length (scalar_functions (spaces_of t))
      → length (types_of t) + least ≤ config.max_types → function_count t + least ≤ function_count (grown next)
  canons_enough {b} {turns} {rest} {next} r g few some room =
      let e = spaces-add t (canons []) in
      let start : Filling config least t 0 (empty_section t) = record {
        grounded = empty_grounds t g;
        some = omega (arith, some, ap (λ z. length (scalar_functions z)) e);
        room = omega (arith, room, ap (λ z. length z.types) e);
        enough = omega (arith, empty_count t);
      } in
      let all = loop_reaches (Filling config least t) (λ n s b r u p e. absurd (filling_ends n s b r u p e))
      (λ n s b x q u lt p i. filling_turn n s u p (turned config s b x q u i)) few 0
      (empty_section t) b turns rest next (omega arith) start r in
      omega (arith, all.1, all.3.enough)
