-- Loops over members: what they leave, how many they read, that they are determined, and what a script says of them.
use Rattle.smith_format.specs.declared.config.Config.{Config}
use Rattle.std.proofs.Common.{◌≡◌, ℕ, ◌+◌, ◌-◌, ◌<◌, ◌≤◌, List, [], ◌∷◌, ◌++◌, map, length, refl, sym, ap, ◌∙◌, ◌^◌, subst, arith, append-nil}
use Rattle.std.proofs.Common.{append_assoc, length-append, string_bytes}
use Rattle.std.proofs.lemmas.List.{length-map, map-append, map-id}
use Rattle.std.specs.List.{AllByRecursion}
use Rattle.std.specs.Prelude.{String}
use Rattle.std.specs.declared.alloc.Global.{Global}
use Rattle.smith_input.specs.Loops.{Loop, after_all, Along}
use Rattle.smith_input.specs.Script.{script_more, script_loop}
use Rattle.smith_input.specs.Kebab.{Kebab}
use Rattle.smith_input.specs.Names.{ReadsNew}
use Rattle.smith_input.specs.NameScript.{AreReachable, IsReachable}
use Rattle.smith_input.specs.Reading.{IsTail}
use Rattle.smith_input.proofs.Loops.{loop_tail, loop_gives, loop_all, loop_few, loop_same, loop_read}
use Rattle.smith_input.proofs.NameScript.{new_reachable, new_script_read}
use Rattle.smith_input.proofs.NewNames.{new_tail, new_unique, new_kebab}
use Rattle.smith_input.proofs.Reading.{tail_trans, tail_is}
use Rattle.smith_types.specs.Made.{IsSpent, ReadsMember, ReadsMembers, ReadsNamed}
use Rattle.smith_tree.specs.ReadableTypes.{AreReadableNames}
use Rattle.smith_tree.specs.TypeScript.{script_members, script_label}
use Rattle.smith_syntax.specs.Signature.{named}
use Rattle.smith_syntax.specs.WellFormed.{Named}
use Rattle.smith_types.proofs.MadeCoreSame.{Same}
use Rattle.smith_types.proofs.Takes.{one_used, used}
use Rattle.smith_input.proofs.DistinctNames.{AreNew, new_distinct}

-- tails

pub named_tail : {config : Config} {B : Type 0} {After : List ℕ → B → List ℕ → Type 0} → ((b : List ℕ) (y : B) (rest : List ℕ) → After b y rest → IsTail rest b)
    → (so_far : List (List ℕ × B)) (b : List ℕ) (x : List ℕ × B) (rest : List ℕ) → ReadsNamed config After so_far b x rest → IsTail rest b
named_tail one so_far b x rest r = tail_trans (one r.mid x.1 rest r.after) (new_tail r.name)

module _ (config : Config) {A : Type 0} {Member : List A → List ℕ → A → List ℕ → Type 0} {min max : ℕ} {b : List ℕ} {fuel : ℕ} {xs : List A} {rest : List ℕ}
    {left : ℕ}
    (l : ReadsMembers config Member min max b fuel xs rest left) where
  pub members_tail : ((so_far : List A) (c : List ℕ) (x : A) (r : List ℕ) → Member so_far c x r → IsTail r c) → IsTail rest b
  members_tail one = loop_tail (λ s c r t e. tail_is e.stays) (λ s c x r t i. one s.0 c x r i.member) 0 ([], fuel) b xs rest (xs, left) l

  -- each is as it should be
  pub members_all : (P : A → Type 0) → ((so_far : List A) (c : List ℕ) (x : A) (r : List ℕ) → Member so_far c x r → P x) → AllByRecursion P xs
  members_all P one = loop_all P (λ s c x r t i. one s.0 c x r i.member) 0 ([], fuel) b xs rest (xs, left) l

  -- how many there are, and how much fuel they take

  pub members_few : length xs ≤ max
  members_few = let few = loop_few 0 ([], fuel) b xs rest (xs, left) (omega arith) l in omega (arith, few)

  -- what holds of a loop, by what holds of its end and of its turns
  gives : (R : List A × ℕ → List A → List A × ℕ → Type 0) → ((s : List A × ℕ) → R s [] s) → ((s t : List A × ℕ) → t.1 ≡ 0 → R s [] t)
      → ((s t u : List A × ℕ) (c : List ℕ) (x : A) (r : List ℕ) (ys : List A) → ReadsMember Member s c x r t → R t ys u → R s (x ∷ ys) u)
      → R ([], fuel) xs (xs, left)
  gives R none spent turn = loop_gives R none (λ s c r t e. spent s t (ap (λ z. z.1) e.state)) turn 0 ([], fuel) b xs rest (xs, left) l

  abbrev Takes : List A × ℕ → List A → List A × ℕ → Type 0
  Takes s ys t = (length ys + t.1 ≤ s.1) × (used (length ys) ≤ s.1)

  takes_one : (s t u : List A × ℕ) (c : List ℕ) (x : A) (r : List ℕ) (ys : List A) → ReadsMember Member s c x r t → Takes t ys u → Takes s (x ∷ ys) u
  takes_one s t u c x r ys i later =
      let less = ap (λ z. z.1) i.state in
      let lasts = i.lasts in
      (omega (arith, less, lasts, later.0), one_used ys t.1 s.1 later.1 (omega (arith, less, lasts)) (omega (arith, less, lasts)))

  pub members_take : (length xs + left ≤ fuel) × (used (length xs) ≤ fuel)
  members_take = gives Takes (λ s. (omega arith, omega arith)) (λ s t none. (omega (arith, none), omega arith)) takes_one

  -- members with names, none of which is the name of a member before it: all can be read
  module _ (name : A → List ℕ)
      (one : (so_far : List A) (c : List ℕ) (x : A) (r : List ℕ) → Member so_far c x r
      → (mid : List ℕ) × ReadsNew config.max_name_length (map name so_far) c (name x) mid) where
    abbrev Names : List A → List A → Type 0
    Names so_far ys = AreNew (map name so_far) (map name ys) × AllByRecursion Kebab (map name ys)
        × AreReachable config.max_name_length (map name so_far) (map name ys)

    names_one : (s t u : List A × ℕ) (c : List ℕ) (x : A) (r : List ℕ) (ys : List A) → ReadsMember Member s c x r t → Names t.0 ys → Names s.0 (x ∷ ys)
    names_one s t u c x r ys i later =
        let new = (one s.0 c x r i.member).1 in
        let more : map name t.0 ≡ map name s.0 ++ name x ∷ [] = ap (λ z. map name z.0) i.state ∙ map-append name s.0 (x ∷ []) in
        let behind = subst (λ ns. AreNew ns (map name ys) × AreReachable config.max_name_length ns (map name ys)) more (later.0, later.2) in
        ((new.unique.is_new, behind.0), (new_kebab new, later.1), (new_reachable new, behind.1))

    pub members_named : Named (map name xs) × AreReadableNames config (map name xs)
    members_named =
        let all : Names [] xs = gives (λ s ys t. Names s.0 ys) (λ s. (tt, tt, tt)) (λ s t none. (tt, tt, tt)) names_one in
        ((all.1, new_distinct [] (map name xs) all.0), all.2)

pub named_name : {config : Config} {B : Type 0} {After : List ℕ → B → List ℕ → Type 0}
    → (so_far : List (List ℕ × B)) (b : List ℕ) (x : List ℕ × B) (rest : List ℕ)
    → ReadsNamed config After so_far b x rest → (mid : List ℕ) × ReadsNew config.max_name_length (map (λ y. y.0) so_far) b x.0 mid
named_name so_far b x rest r = (r.mid, r.name)

label_name : {max : ℕ} (so_far : List (List ℕ)) (b x rest : List ℕ) → ReadsNew max so_far b x rest → (mid : List ℕ) × ReadsNew max (map (λ y. y) so_far) b x mid
label_name {max} so_far b x rest r = (rest, subst (λ ns. ReadsNew max ns b x rest) (sym (map-id so_far)) r)

pub labels_named : (config : Config) {min max : ℕ} {b : List ℕ} {fuel : ℕ} {xs : List (List ℕ)} {rest : List ℕ} {left : ℕ}
    → ReadsMembers config (ReadsNew config.max_name_length) min max b fuel xs rest left → Named xs × AreReadableNames config xs
labels_named config {xs = xs} l = subst (λ ns. Named ns × AreReadableNames config ns) (map-id xs) (members_named config l (λ x. x) label_name)

pub members_same : (config : Config) {A : Type 0} {Member : List A → List ℕ → A → List ℕ → Type 0} {min max : ℕ} {b : List ℕ} {fuel : ℕ} {xs ys : List A}
    {r s : List ℕ}
    {f g : ℕ}
    → ((so_far : List A) (b : List ℕ) (x y : A) (r s : List ℕ) → Member so_far b x r → Member so_far b y s → (x ≡ y) × (r ≡ s))
    → ReadsMembers config Member min max b fuel xs r f → ReadsMembers config Member min max b fuel ys s g → Same xs ys r s f g
members_same config {A} {Member} {b = b} {fuel = fuel} {xs = xs} {ys = ys} {r = r} {s = s} {f = f} {g = g} one l m =
    let d = loop_same (λ w c p q t u e h. (e.stays ∙ sym h.stays, e.state ∙ sym h.state)) apart items 0 ([], fuel) b xs ys r s (xs, f) (ys, g) l m in
    record { value = d.0; rest = d.1; left = ap (λ z. z.1) d.2 }
  where
    apart : (w : List A × ℕ) (c : List ℕ) (x : A) (p q : List ℕ) (t u : List A × ℕ) → IsSpent w c p t → ReadsMember Member w c x q u → ⊥
    apart w c x p q t u e i = let none = e.spent in let some = i.lasts in omega (arith, none, some)

    items : (w : List A × ℕ) (c : List ℕ) (x y : A) (p q : List ℕ) (t u : List A × ℕ) → ReadsMember Member w c x p t → ReadsMember Member w c y q u
        → (x ≡ y) × (p ≡ q) × (t ≡ u)
    items w c x y p q t u i j =
        let v = one w.0 c x y p q i.member j.member in
        (v.0, v.1, i.state ∙ (ap (λ z. (w.0 ++ z ∷ [], w.1 - 1)) v.0 ∙ sym j.state))

pub named_same : {config : Config} {B : Type 0} {After : List ℕ → B → List ℕ → Type 0}
    → ((b : List ℕ) (x y : B) (r s : List ℕ) → After b x r → After b y s → (x ≡ y) × (r ≡ s))
    → (so_far : List (List ℕ × B)) (b : List ℕ) (x y : List ℕ × B) (r s : List ℕ) → ReadsNamed config After so_far b x r → ReadsNamed config After so_far b y s
    → (x ≡ y) × (r ≡ s)
named_same {After = After} one so_far b x y r s p q =
    let n = new_unique p.name q.name in
    let t = one q.mid x.1 y.1 r s (subst (λ m. After m x.1 r) n.1 p.after) q.after in
    (λ j. (n.0 j, t.0 j), t.1)

-- scripts

-- each member is as it should be after those before it
abbrev pub Ready : {A : Type 0} → (List A → A → Type 0) → List A → List A → Type 0
Ready P so_far xs = Along P (λ ys x. ys ++ x ∷ []) so_far xs

module _ {A : Type 0} where
  abbrev next_member : List A × ℕ → A → List A × ℕ
  next_member s x = (s.0 ++ x ∷ [], s.1 - 1)

  after_members : (so_far : List A) (fuel : ℕ) (xs : List A) → after_all next_member (so_far, fuel) xs ≡ (so_far ++ xs, fuel - length xs)
  after_members so_far fuel [] = λ i. (sym (append-nil so_far) i, (let z : fuel ≡ fuel - 0 = omega arith in z) i)
  after_members so_far fuel (x ∷ xs) =
      after_members (so_far ++ x ∷ []) (fuel - 1) xs
      ∙ (λ i. (append_assoc so_far (x ∷ []) xs i, (let z : fuel - 1 - length xs ≡ fuel - length (x ∷ xs) = omega arith in z) i))

  -- A script depends only on how many members there are in the state.
  counted : (f : ℕ → A → List ℕ) (min max done : ℕ) (s : List A × ℕ) (xs : List A)
      → script_loop f (λ count x. count + 1) min max done (length s.0) xs ≡ script_loop (λ t x. f (length t.0) x) next_member min max done s xs
  counted f min max done s [] = refl
  counted f min max done s (x ∷ xs) =
      let next : List A × ℕ = next_member s x in
      let more : length s.0 + 1 ≡ length next.0 = sym (length-append s.0 (x ∷ [])) in
      ap (λ later. script_more min done ++ f (length s.0) x ++ later)
      (ap (λ n. script_loop f (λ count y. count + 1) min max (done + 1) n xs) more ∙ counted f min max (done + 1) next xs)

  lasts_along : (P : List A → A → Type 0) (so_far : List A) (fuel : ℕ) (xs : List A) → Ready P so_far xs → length xs + 1 ≤ fuel
      → Along (λ s x. P s.0 x × (0 < s.1 - 1)) next_member (so_far, fuel) xs
  lasts_along P so_far fuel [] all lasts = tt
  lasts_along P so_far fuel (x ∷ xs) all lasts = ((all.0, omega arith), lasts_along P (so_far ++ x ∷ []) (fuel - 1) xs all.1 (omega arith))

  -- A script of members is read as them.
  pub members_read : (config : Config) {min max : ℕ} (Member : List A → List ℕ → A → List ℕ → Type 0) (f : ℕ → A → List ℕ) (P : List A → A → Type 0)
      → ((so_far : List A) (x : A) (rest : List ℕ) → P so_far x → Member so_far (f (length so_far) x ++ rest) x rest)
      → (xs : List A) (fuel : ℕ) (rest : List ℕ) → Ready P [] xs → min ≤ length xs → length xs ≤ max → length xs + 1 ≤ fuel
      → (left : ℕ) × (left + length xs ≡ fuel) × ReadsMembers config Member min max (script_members f min max xs ++ rest) fuel xs rest left
  members_read config {min = min} {max = max} Member f P one xs fuel rest all some few lasts =
      let read =
      loop_read {Ends = IsSpent} {Item = ReadsMember Member} {bits = config.loop_bits} {min = min} {max = max} (λ s x. f (length s.0) x) next_member
      (λ s x. P s.0 x × (0 < s.1 - 1))
      (λ s x more p. record { lasts = p.1; member = one s.0 x more p.0; state = refl })
      xs 0 ([], fuel) rest (lasts_along P [] fuel xs all lasts) (omega (arith, some)) (omega (arith, few))
      in
      let B : List ℕ → Type 0 = λ said. Loop IsSpent (ReadsMember Member) config.loop_bits min max 0 ([], fuel) (said ++ rest) xs rest
      (after_all next_member ([], fuel) xs) in
      let T : List A × ℕ → Type 0 = λ t. Loop IsSpent (ReadsMember Member) config.loop_bits min max 0 ([], fuel)
      (script_members f min max xs ++ rest) xs rest t in
      (fuel - length xs, omega arith, subst T (after_members [] fuel xs) (subst B (sym (counted f min max 0 ([], fuel) xs)) read))

-- A member has a name in kebab case that can be read, and what follows that is as it should be.
abbrev pub IsReady : {A : Type 0} → Config → (A → List ℕ) → (A → Type 0) → List A → A → Type 0
IsReady config name Q so_far x = Kebab (name x) × IsReachable config.max_name_length (map name so_far) (name x) × Q x

module _ (config : Config) {A : Type 0} (name : A → List ℕ) (Q : A → Type 0) where
  each_ready : (xs so_far : List A) → AllByRecursion Kebab (map name xs) → AreReachable config.max_name_length (map name so_far) (map name xs)
      → AllByRecursion Q xs
      → Ready (IsReady config name Q) so_far xs
  each_ready [] so_far k r q = tt
  each_ready (x ∷ xs) so_far k r q =
      let behind = subst (λ ns. AreReachable config.max_name_length ns (map name xs)) (sym (map-append name so_far (x ∷ []))) r.1 in
      ((k.0, r.0, q.0), each_ready xs (so_far ++ x ∷ []) k.1 behind q.1)

  pub named_ready : (xs : List A) → Named (map name xs) → AreReadableNames config (map name xs) → AllByRecursion Q xs → Ready (IsReady config name Q) [] xs
  named_ready xs n r q = each_ready xs [] n.0 r q

-- A name that is new among the names of the program's members.
names_of : {B : Type 0} (so_far : List (String Global × B)) → map (λ p. string_bytes p.0) so_far ≡ map (λ y. y.0) (map named so_far)
names_of [] = refl
names_of (p ∷ ps) = ap (λ ns. string_bytes p.0 ∷ ns) (names_of ps)

pub new_named : {max : ℕ} {B : Type 0} (so_far : List (String Global × B)) {bytes name mid : List ℕ}
    → ReadsNew max (map (λ p. string_bytes p.0) so_far) bytes name mid
    → ReadsNew max (map (λ y. y.0) (map named so_far)) bytes name mid
new_named {max} so_far {bytes} {name} {mid} r = subst (λ ns. ReadsNew max ns bytes name mid) (names_of so_far) r

pub is_named : {config : Config} {B : Type 0} {After : List ℕ → B → List ℕ → Type 0} (so_far : List (String Global × B)) {bytes name mid rest : List ℕ} {y : B}
    → ReadsNew config.max_name_length (map (λ p. string_bytes p.0) so_far) bytes name mid → After mid y rest
    → ReadsNamed config After (map named so_far) bytes (name, y) rest
is_named so_far {mid = mid} r a = record { mid = mid; name = new_named so_far r; after = a }

-- a name, and what follows it
pub named_read : {config : Config} (short : config.max_name_length < 2 ^ 64) {B : Type 0} (After : List ℕ → B → List ℕ → Type 0) (f : B → List ℕ)
    (Q : B → Type 0)
    → ((x : B) (rest : List ℕ) → Q x → After (f x ++ rest) x rest)
    → (so_far : List (List ℕ × B)) (x : List ℕ × B) (rest : List ℕ) → IsReady config (λ y. y.0) (λ y. Q y.1) so_far x
    → ReadsNamed config After so_far ((script_label config (length so_far) x.0 ++ f x.1) ++ rest) x rest
named_read {config} short After f Q one so_far x rest (k, r, q) =
    let names : List (List ℕ) = map (λ y. y.0) so_far in
    let more : List ℕ = f x.1 ++ rest in
    let C : ℕ → Type 0 = λ count. ReadsNew config.max_name_length names (script_label config count x.0 ++ more) x.0 more in
    let P : List ℕ → Type 0 = λ b. ReadsNamed config After so_far b x rest in
    subst P (sym (append_assoc (script_label config (length so_far) x.0) (f x.1) rest)) (record {
      mid = more;
      name = subst C (length-map so_far (λ y. y.0)) (new_script_read config.max_name_length names x.0 more (omega (arith, short)) k r);
      after = one x.1 rest q;
    })

pub label_read : (config : Config) (short : config.max_name_length < 2 ^ 64) (so_far : List (List ℕ)) (n rest : List ℕ)
    → IsReady config (λ y. y) (λ y. Unit {0}) so_far n
    → ReadsNew config.max_name_length so_far (script_label config (length so_far) n ++ rest) n rest
label_read config short so_far n rest (k, r, _) =
    let P : List (List ℕ) → Type 0 = λ ns. ReadsNew config.max_name_length ns (script_label config (length ns) n ++ rest) n rest in
    subst P (map-id so_far) (new_script_read config.max_name_length (map (λ y. y) so_far) n rest (omega (arith, short)) k r)

pub all_unit : {A : Type 0} (xs : List A) → AllByRecursion (λ x. Unit {0}) xs
all_unit [] = tt
all_unit (x ∷ xs) = (tt, all_unit xs)

-- The same turn by turn, as the program takes them.

-- no fuel is left
pub spends : {A : Type 0} {so_far : List A} {b : List ℕ} (held left : ℕ) → left ≡ held - 1 → left ≡ 0 → IsSpent (so_far, held) b b (so_far, left)
spends {so_far = so_far} held left burnt none = record { spent = omega arith; stays = refl; state = ap (λ n. (so_far, n)) none }

module _ {A : Type 0} {Member : List A → List ℕ → A → List ℕ → Type 0} where
  -- nothing was read
  pub starts : {bits min max : ℕ} {b : List ℕ} (fuel : ℕ) (so_far : List A) → so_far ≡ [] → (xs : List A) (rest : List ℕ) (t : List A × ℕ)
      → Loop IsSpent (ReadsMember Member) bits min max 0 (so_far, fuel) b xs rest t
      → Loop IsSpent (ReadsMember Member) bits min max 0 ([], fuel) b (so_far ++ xs) rest t
  starts {bits = bits} {min = min} {max = max} {b = b} fuel so_far none xs rest t l =
      let P : List A → Type 0 = λ ys. Loop IsSpent (ReadsMember Member) bits min max 0 ([], fuel) b (ys ++ xs) rest t in
      let Q : List A → Type 0 = λ ys. Loop IsSpent (ReadsMember Member) bits min max 0 (ys, fuel) b xs rest t in
      subst P (sym none) (subst Q none l)

  -- a member was read
  pub has_read : {so_far : List A} {b rest : List ℕ} (held left : ℕ) (x : A) → left ≡ held - 1 → (left ≡ 0 → ⊥) → Member so_far b x rest
      → ReadsMember Member (so_far, held) b x rest (so_far ++ x ∷ [], left)
  has_read {so_far = so_far} held left x burnt some one = record { lasts = omega arith; member = one; state = ap (λ n. (so_far ++ x ∷ [], n)) burnt }

  -- a member was read, and is with those so far
  pub has_read_as : {so_far next : List A} {b rest : List ℕ} (held left : ℕ) (x : A) → left ≡ held - 1 → (left ≡ 0 → ⊥) → Member so_far b x rest
      → next ≡ so_far ++ x ∷ [] → ReadsMember Member (so_far, held) b x rest (next, left)
  has_read_as {so_far = so_far} held left x burnt some one more = record { lasts = omega arith; member = one; state = λ i. (more i, burnt i) }
