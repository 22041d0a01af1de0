-- The script of canonical functions is read as them.
use Rattle.std.proofs.Common.{◌≡◌, ℕ, ◌+◌, ◌<◌, ◌≤◌, ◌^◌, Bool, true, false, List, [], ◌∷◌, ◌++◌, map, length, arith, refl, sym, ap, ◌∙◌, subst, append_assoc}
use Rattle.std.proofs.Common.{append-nil, nat_eq, Option, None, Some, Decides}
use Rattle.std.proofs.lemmas.Bool.Decides.{Decides-eqb}
use Rattle.std.proofs.lemmas.Option.{slice_get_within}
use Rattle.std.specs.List.{AllByRecursion}
use Rattle.std.specs.Prelude.{slice_get}
use denote.Enum.Bare.{same_true, true_same}
use Rattle.smith_input.specs.Choices.{ReadsAmong}
use Rattle.smith_input.specs.Loops.{Loop, no_more, an_item}
use Rattle.smith_input.specs.Script.{pick, script_among, script_loop, script_more}
use Rattle.smith_input.proofs.Choices.{among_read}
use Rattle.smith_input.proofs.Loops.{end_read, more_read}
use Rattle.smith_input.proofs.Picks.{reads-pick}
use Rattle.smith_format.specs.declared.config.Config.{Config}
use Rattle.smith_scope.proofs.Places.{length-places}
use Rattle.smith_syntax.specs.Entries.{Entry, function, defined, component_type, instance_type}
use Rattle.smith_syntax.specs.Scope.{Scope, with_type}
use Rattle.smith_syntax.specs.Places.{places}
use Rattle.smith_syntax.specs.HasSignature.{is_of_signature}
use Rattle.smith_syntax.specs.SameSignature.{same_signature_Decides}
use Rattle.smith_syntax.specs.WellFormed.{FormedTypes, Named}
use Rattle.smith_tree.specs.ReadableTypes.{AreReadableNames, IsReadableType}
use Rattle.smith_tree.specs.TypeScript.{script_lifted}
use Rattle.smith_tree.specs.CanonScript.{canon_item_of, script_canon, script_canon_rest, script_lift}
use Rattle.smith_component.specs.Canonicals.{CanonTurn, Growing, NoCanon, ReadsCanon, spaces_at, to_equal, with_canon}
use Rattle.smith_tree.specs.Offers.{canon_items, canon_offers, is_scalar_entry, is_scalar_type, scalar_functions}
use Rattle.smith_tree.specs.Tree.{Canon, lift, lower}
use Rattle.smith_tree.specs.Spaces.{Spaces, after_canon}
use Rattle.smith_component.specs.Tables.{functions_at}
use Rattle.smith_tree.specs.WellFormed.{FormedCanon, FormedCanons}
use Rattle.smith_tree.specs.contracts.choices.CanonItem.{the_type as canon_item_type}
use Rattle.smith_tree.specs.contracts.choices.CanonItemPartialEq.TheImpl.{ghosts as equal}
use Rattle.smith_tree.specs.declared.choices.CanonItem.{CanonItem}
use Rattle.smith_tree.specs.declared.choices.CanonItem.TheVariants.{Lower, Lift}
use Rattle.smith_input.proofs.Offered.{offers_few, offers_found}
use Rattle.smith_scope.proofs.Places.{place_found}
use Rattle.smith_types.proofs.LiftingRead.{lifted_read}
use Rattle.std.proofs.lemmas.Bool.{lt-ltb}
use Rattle.smith_component.proofs.Growth.{canon_keeps, functions_after, spaces_canon}
use Rattle.smith_component.proofs.Spaces.{all_at}

item_Decides : (a b : CanonItem) → Decides (equal.eq a b) (a ≡ b)
item_Decides a b = (same_true canon_item_type tt a b, true_same canon_item_type a b)

-- The parameters of a function type can be said.
abbrev pub Spoken : Config → Entry → Type 0
Spoken config (defined t) = Unit {0}
Spoken config (function s) = Named (map (λ p. p.0) s.params) × AreReadableNames config (map (λ p. p.0) s.params)
Spoken config (component_type ds) = Unit {0}
Spoken config (instance_type ds) = Unit {0}

-- Those of types that can be read can.
pub types_spoken : (config : Config) (es : List Entry) (own : Scope) (outer : List Scope) → FormedTypes es own outer
    → AllByRecursion (IsReadableType config) es → AllByRecursion (Spoken config) es
types_spoken config [] own outer f r = tt
types_spoken config (defined t ∷ es) own outer f r = (tt, types_spoken config es (with_type own (defined t)) outer f.1 r.1)
types_spoken config (function s ∷ es) own outer f r = ((f.0.0, r.0), types_spoken config es (with_type own (function s)) outer f.1 r.1)
types_spoken config (component_type ds ∷ es) own outer f r = (tt, types_spoken config es (with_type own (component_type ds)) outer f.1 r.1)
types_spoken config (instance_type ds ∷ es) own outer f r = (tt, types_spoken config es (with_type own (instance_type ds)) outer f.1 r.1)

-- the choice of an item that is offered
item_read : (s : Spaces) (k : ℕ) (b : Bool) (item : CanonItem) (rest : List ℕ) → slice_get (canon_offers s) k ≡ Some (b, item) → b ≡ true
    → ReadsAmong (canon_items s) (script_among equal.eq (canon_items s) item ++ rest) item rest
item_read s k b item rest e t =
    let found = offers_found (canon_offers s) k b item e t in
    let few : length (canon_items s) ≤ 2 = offers_few (canon_offers s) in
    among_read equal.eq item_Decides (canon_items s) item found.0 rest (omega (arith, few)) found.1

module _ (config : Config) (s : Growing) where
  -- a turn of an item that was chosen by its script
  turn_read : (item : CanonItem) (said rest : List ℕ) (next : Growing)
      → ReadsAmong (canon_items (spaces_at s)) (script_among equal.eq (canon_items (spaces_at s)) item ++ (said ++ rest)) item (said ++ rest)
      → ReadsCanon config s item (said ++ rest) rest next → CanonTurn config s ((script_among equal.eq (canon_items (spaces_at s)) item ++ said) ++ rest) item
      rest next
  turn_read item said rest next choice does = grind (arith, append_assoc)

  lower_read : (f : ℕ) (rest : List ℕ) → FormedCanon (spaces_at s) (lower f) → length (spaces_at s).functions ≤ 2 ^ 64
      → CanonTurn config s (script_canon config (spaces_at s) (lower f) ++ rest) Lower rest (with_canon s (lower f))
  lower_read f rest (signature, has, scalar) few =
      let sp : Spaces = spaces_at s in
      let fs : List ℕ = scalar_functions sp in
      let yes : is_scalar_type sp.types has.ty ≡ true = ap (λ (o : Option Entry). elim o [ None ↦ false | Some e ↦ is_scalar_entry e ]) has.is ∙ scalar in
      let found = place_found (is_scalar_type sp.types) sp.functions f has.ty has.stands yes in
      let some : found.0 < length fs = slice_get_within fs found.0 f found.1 in
      let said : List ℕ = script_among nat_eq fs f in
      turn_read Lower said rest (with_canon s (lower f)) (item_read sp 0 _ Lower (said ++ rest) refl (lt-ltb 0 (length fs) (omega (arith, some))))
      (f, among_read nat_eq Decides-eqb fs f found.0 rest (omega (arith, few, length-places (is_scalar_type sp.types) 0 sp.functions)) found.1, refl)

  lift_read : config.max_name_length < 2 ^ 64 → (c t : ℕ) (rest : List ℕ) → FormedCanon (spaces_at s) (lift c t)
      → AllByRecursion (Spoken config) (spaces_at s).types
      → length (spaces_at s).core_functions ≤ 2 ^ 64 → length (spaces_at s).types ≤ 2 ^ 64
      → CanonTurn config s (script_canon config (spaces_at s) (lift c t) ++ rest) Lift rest (with_canon s (lift c t))
  lift_read short c t rest (signature, lowered, f, is, lowers, has, (core, flat, other)) spoken few many =
      let sp : Spaces = spaces_at s in
      let below : c < length sp.core_functions = slice_get_within sp.core_functions c f lowers in
      let ts : List ℕ = places (is_of_signature signature) 0 sp.types in
      let found = place_found (is_of_signature signature) sp.types t (function signature) is ((same_signature_Decides signature signature).1 refl) in
      let said : Spoken config (function signature) = all_at (Spoken config) sp.types t (function signature) spoken is in
      let a : List ℕ = pick (length sp.core_functions) c in
      let b : List ℕ = script_lifted config signature in
      let d : List ℕ = script_among nat_eq ts t in
      let which : script_canon_rest config sp (lift c t) ≡ a ++ (b ++ d) = ap (λ o. a ++ script_lift config sp t o) is in
      let whole : (a ++ (b ++ d)) ++ rest ≡ a ++ (b ++ (d ++ rest)) = append_assoc a (b ++ d) rest ∙ ap (λ z. a ++ z) (append_assoc b d rest) in
      let does : ReadsCanon config s Lift (a ++ (b ++ (d ++ rest))) rest (with_canon s (lift c t)) = record {
        c = c;
        mid = b ++ (d ++ rest);
        low = d ++ rest;
        f = f;
        lowered = lowered;
        core = core;
        signature = signature;
        chooses = reads-pick (length sp.core_functions) c (b ++ (d ++ rest)) few below;
        lowers = lowers;
        of = has;
        flattens = other;
        reads = lifted_read config short core signature (d ++ rest) flat said.0 said.1;
        lifts = to_equal (among_read nat_eq Decides-eqb ts t found.0 rest (omega (arith, many, length-places (is_of_signature signature) 0 sp.types)) found.1)
            refl;
      } in
      let all : ReadsCanon config s Lift (script_canon_rest config sp (lift c t) ++ rest) rest (with_canon s (lift c t)) =
      subst (λ z. ReadsCanon config s Lift z rest (with_canon s (lift c t))) (sym (ap (λ z. z ++ rest) which ∙ whole)) does in
      turn_read Lift (script_canon_rest config sp (lift c t)) rest (with_canon s (lift c t))
      (item_read sp 1 _ Lift _ refl (lt-ltb 0 (length sp.core_functions) (omega (arith, below)))) all

  canon_read : config.max_name_length < 2 ^ 64 → (c : Canon) (rest : List ℕ) → FormedCanon (spaces_at s) c → AllByRecursion (Spoken config) (spaces_at s).types
      → functions_at (spaces_at s) ≤ 2 ^ 64
      → length (spaces_at s).types ≤ 2 ^ 64
      → CanonTurn config s (script_canon config (spaces_at s) c ++ rest) (canon_item_of c) rest (with_canon s c)
  canon_read short (lift c t) rest h spoken few many = lift_read short c t rest h spoken (omega (arith, few)) many
  canon_read short (lower f) rest h spoken few many = lower_read f rest h (omega (arith, few))

-- canonical functions in a row
pub canons_from : (cs : List Canon) (config : Config) → config.max_name_length < 2 ^ 64 → (max done : ℕ) (s : Growing) (sp : Spaces) (rest : List ℕ)
    → spaces_at s ≡ sp → FormedCanons cs sp
    → AllByRecursion (Spoken config) sp.types → length sp.types ≤ 2 ^ 64 → functions_at sp + length cs ≤ 2 ^ 64 → done + length cs ≤ max
    → Loop NoCanon (CanonTurn config) config.loop_bits 0 max done s (script_loop (script_canon config) after_canon 0 max done sp cs ++ rest)
    (map canon_item_of cs) rest
    (record { before = s.before; funcs = s.funcs ++ cs })
canons_from [] config short max done s sp rest e formed spoken many few fits =
    no_more (end_read config.loop_bits 0 max done rest (omega arith) (omega (arith, fits))) (λ i. record { before = s.before; funcs = append-nil s.funcs i })
canons_from (c ∷ cs) config short max done s sp rest e formed spoken many few fits =
    let next : Growing = with_canon s c in
    let later : List ℕ = script_loop (script_canon config) after_canon 0 max (done + 1) (after_canon sp c) cs in
    let says : List ℕ = script_more 0 done in
    let said : List ℕ = script_canon config sp c in
    let F : Spaces → Type 0 = λ z. FormedCanon z c in
    let T : Spaces → Type 0 = λ z. AllByRecursion (Spoken config) z.types in
    let C : Spaces → Type 0 = λ z. CanonTurn config s (script_canon config z c ++ (later ++ rest)) (canon_item_of c) (later ++ rest) next in
    let one = subst C e (canon_read config s short c (later ++ rest) (subst F (sym e) formed.0) (subst T (sym e) spoken) (omega (arith, few, ap functions_at e))
    (omega (arith, many, ap (λ (z : Spaces). length z.types) e))) in
    let then : spaces_at next ≡ after_canon sp c = spaces_canon s.before s.funcs c ∙ ap (λ z. after_canon z c) e in
    let keep = canon_keeps sp c in
    let more =
    canons_from cs config short max (done + 1) next (after_canon sp c) rest then formed.1 (subst (AllByRecursion (Spoken config)) (sym keep.types) spoken)
    (omega (arith, many, ap length keep.types)) (omega (arith, few, functions_after sp c)) (omega (arith, fits)) in
    let whole : ((says ++ said) ++ later) ++ rest ≡ says ++ (said ++ (later ++ rest)) = append_assoc (says ++ said) later rest
    ∙ append_assoc says said (later ++ rest) in
    let G : List Canon → Type 0 = λ z. Loop NoCanon (CanonTurn config) config.loop_bits 0 max done s (((says ++ said) ++ later) ++ rest)
    (map canon_item_of (c ∷ cs)) rest
    (record { before = s.before; funcs = z }) in
    let B : List ℕ → Type 0 = λ z. Loop NoCanon (CanonTurn config) config.loop_bits 0 max done s z (map canon_item_of (c ∷ cs)) rest
    (record { before = s.before; funcs = (s.funcs ++ c ∷ []) ++ cs }) in
    subst G (append_assoc s.funcs (c ∷ []) cs)
    (subst B (sym whole) (an_item (more_read config.loop_bits 0 max done (said ++ (later ++ rest)) (omega (arith, fits))) one more))
