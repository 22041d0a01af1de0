-- How types are read: the bytes and the fuel determine the type, and leave the rest of both.
use Rattle.std.specs.Prelude.{◌≡◌, ℕ, ◌+◌, ◌-◌, ◌<◌, Bool, true, false, List, [], ◌∷◌, ◌++◌, map, length, Option, Some, None}
use Rattle.std.specs.Option.{option_to_list}
use Rattle.smith_input.specs.Choices.{ReadsAmong}
use Rattle.smith_input.specs.Loops.{Loop}
use Rattle.smith_input.specs.Names.{ReadsNew}
use Rattle.smith_input.specs.Reading.{Reads, Flips, More}
use Rattle.smith_syntax.specs.Entries.{DefValType, primitive_type, record_type, variant_type, list_type, tuple_type, flags_type, enum_type, option_type}
use Rattle.smith_syntax.specs.Entries.{result_type, Signature, Entry, FullEntry, FullDecl, FullDecls, defined, function, component_type, instance_type, plain}
use Rattle.smith_syntax.specs.Entries.{core_type_decl, type_decl, no_decls, then_decls, keeps_functions, CoreEntry}
use Rattle.smith_syntax.specs.Marked.{Marked, scope_in}
use Rattle.smith_syntax.specs.Usable.{value_places}
use Rattle.smith_format.specs.declared.config.Config.{Config}
use Rattle.smith_types.specs.Declarations.{SoFar, nothing_so_far, after_one, ReadsAlias, ReadsExportDecl, ReadsImportDecl, NoImportDecl}
use Rattle.smith_tree.specs.TypeOffers.{declaration_items, primitives, defined_kinds, type_kinds}
use Rattle.smith_types.specs.MadeCore.{MadeCore, named_by_core}
use Rattle.smith_tree.specs.declared.choices.DeclarationItem.TheVariants as item
use Rattle.smith_tree.specs.declared.choices.TypeKind.TheVariants.{Defined, Function, Component, Instance}
use Rattle.smith_tree.specs.declared.choices.DefinedKind.{DefinedKind}
use Rattle.smith_tree.specs.declared.choices.DefinedKind.TheVariants as kind
use Rattle.smith_syntax.specs.declared.types.ComponentValType.{ComponentValType}
use Rattle.smith_syntax.specs.declared.types.ComponentValType.TheVariants.{Primitive, Indexed}
use Rattle.smith_syntax.specs.declared.types.PrimitiveValType.{PrimitiveValType}
use Rattle.smith_syntax.specs.declared.types.PrimitiveValType.TheVariants as prim

-- A value type is a primitive one if the scope has no defined types. Otherwise it is a choice of two: a primitive one,
-- or one of the defined types of the scope, by its index.
pub data ReadsVal (own : Marked) : List ℕ → ComponentValType → List ℕ → Type 0 where
  only_primitive : {bytes : List ℕ} {p : PrimitiveValType} {rest : List ℕ} → value_places own ≡ [] → ReadsAmong primitives bytes p rest
      → ReadsVal own bytes (Primitive p) rest
  either_primitive : {bytes mid : List ℕ} {p : PrimitiveValType} {rest : List ℕ} → 0 < length (value_places own) → Reads 2 bytes 0 mid
      → ReadsAmong primitives mid p rest → ReadsVal own bytes (Primitive p) rest
  either_index : {bytes mid : List ℕ} {i : ℕ} {rest : List ℕ} → Reads 2 bytes 1 mid → ReadsAmong (value_places own) mid i rest
      → ReadsVal own bytes (Indexed i) rest

-- a boolean, and a value type if it is true
pub data ReadsMaybe (own : Marked) : List ℕ → Option ComponentValType → List ℕ → Type 0 where
  absent : {bytes rest : List ℕ} → Flips bytes false rest → ReadsMaybe own bytes None rest
  present : {bytes mid : List ℕ} {v : ComponentValType} {rest : List ℕ} → Flips bytes true mid → ReadsVal own mid v rest → ReadsMaybe own bytes (Some v) rest

-- A turn of a loop over members takes one from the fuel. If none is left then, the loop ends; the state is what was
-- read so far, and the fuel.
pub record IsSpent {A : Type 0} (s : List A × ℕ) (bytes rest : List ℕ) (t : List A × ℕ) : Type 0 where
  pub spent : s.1 - 1 ≡ 0
  pub stays : rest ≡ bytes
  pub state : t ≡ (s.0, 0)

-- a turn that reads a member
pub record ReadsMember {A : Type 0} (Member : List A → List ℕ → A → List ℕ → Type 0) (s : List A × ℕ) (bytes : List ℕ) (x : A) (rest : List ℕ)
    (t : List A × ℕ) : Type 0 where
  pub lasts : 0 < s.1 - 1
  pub member : Member s.0 bytes x rest
  pub state : t ≡ (s.0 ++ x ∷ [], s.1 - 1)

-- the members of a type
abbrev pub ReadsMembers : {A : Type 0} → Config → (List A → List ℕ → A → List ℕ → Type 0) → ℕ → ℕ → List ℕ → ℕ → List A → List ℕ → ℕ → Type 0
ReadsMembers config Member min max bytes fuel xs rest left =
    Loop IsSpent (ReadsMember Member) config.loop_bits min max 0 ([], fuel) bytes xs rest (xs, left)

-- A member with a name, and what follows that. The name is new among the names of the members so far.
pub record ReadsNamed {B : Type 0} (config : Config) (After : List ℕ → B → List ℕ → Type 0) (so_far : List (List ℕ × B)) (bytes : List ℕ) (x : List ℕ × B)
    (rest : List ℕ) : Type 0 where
  pub mid : List ℕ
  pub name : ReadsNew config.max_name_length (map (λ y. y.0) so_far) bytes x.0 mid
  pub after : After mid x.1 rest

-- a type of these members, or bool if there is none
abbrev pub or_bool : {A : Type 0} → (List A → DefValType) → List A → DefValType
or_bool of [] = primitive_type prim.Bool
or_bool of (x ∷ xs) = of (x ∷ xs)

-- a type of one member at least, and at most that many
abbrev pub MadeMembers : {A : Type 0} → Config → (List A → List ℕ → A → List ℕ → Type 0) → ℕ → (List A → DefValType) → List ℕ → ℕ → DefValType
    → List ℕ → ℕ → Type 0
MadeMembers {A} config Member max of b fuel t rest left = (xs : List A) × ReadsMembers config Member 1 max b fuel xs rest left × (t ≡ or_bool of xs)

-- a defined type of a kind
abbrev pub MadeAs : Config → Marked → DefinedKind → List ℕ → ℕ → DefValType → List ℕ → ℕ → Type 0
MadeAs config own kind.Primitive b fuel t rest left = (p : PrimitiveValType) × ReadsAmong primitives b p rest × (t ≡ primitive_type p) × (left ≡ fuel)
MadeAs config own kind.Record b fuel t rest left = MadeMembers config (ReadsNamed config (ReadsVal own)) 100 record_type b fuel t rest left
MadeAs config own kind.Variant b fuel t rest left = MadeMembers config (ReadsNamed config (ReadsMaybe own)) 100 variant_type b fuel t rest left
MadeAs config own kind.List b fuel t rest left = (v : ComponentValType) × ReadsVal own b v rest × (t ≡ list_type v) × (left ≡ fuel)
MadeAs config own kind.Tuple b fuel t rest left = MadeMembers config (λ so_far. ReadsVal own) 100 tuple_type b fuel t rest left
MadeAs config own kind.Flags b fuel t rest left = MadeMembers config (ReadsNew config.max_name_length) 32 flags_type b fuel t rest left
MadeAs config own kind.Enum b fuel t rest left = MadeMembers config (ReadsNew config.max_name_length) 100 enum_type b fuel t rest left
MadeAs config own kind.Option b fuel t rest left = (v : ComponentValType) × ReadsVal own b v rest × (t ≡ option_type v) × (left ≡ fuel)
MadeAs config own kind.Result b fuel t rest left =
    (ok : Option ComponentValType) × (mid : List ℕ) × ReadsMaybe own b ok mid × (err : Option ComponentValType) × ReadsMaybe own mid err rest
    × (t ≡ result_type ok err) × (left ≡ fuel)

-- a choice of a kind, and a type of that kind
pub record MadeDefined (config : Config) (own : Marked) (bytes : List ℕ) (fuel : ℕ) (t : DefValType) (rest : List ℕ) (left : ℕ) : Type 0 where
  pub kind : DefinedKind
  pub mid : List ℕ
  pub choice : ReadsAmong defined_kinds bytes kind mid
  pub made : MadeAs config own kind mid fuel t rest left

-- the result of a function: a loop of at most one turn
abbrev pub ReadsResult : Config → Marked → List ℕ → ℕ → Option ComponentValType → List ℕ → ℕ → Type 0
ReadsResult config own b fuel r rest left = ReadsMembers config (λ so_far. ReadsVal own) 0 1 b fuel (option_to_list r) rest left

-- a function type: at most 16 parameters, and then a result or none
pub record MadeFunction (config : Config) (own : Marked) (bytes : List ℕ) (fuel : ℕ) (s : Signature) (rest : List ℕ) (left : ℕ) : Type 0 where
  pub mid : List ℕ
  pub held : ℕ
  pub takes : ReadsMembers config (ReadsNamed config (ReadsVal own)) 0 16 bytes fuel s.params mid held
  pub gives : ReadsResult config own mid held s.result rest left

mutual
  -- A type takes one from the fuel. If none is left then, it is a defined type; otherwise its kind is a choice of four.
  -- The declarations of a component type and of an instance type are in a scope of their own.
  pub data Made (config : Config) : Marked → List Marked → List ℕ → ℕ → FullEntry → List ℕ → ℕ → Type 0 where
    spent_type : {own : Marked} {outer : List Marked} {bytes rest : List ℕ} {fuel left : ℕ} {t : DefValType} {e : FullEntry} → fuel - 1 ≡ 0
        → MadeDefined config own bytes 0 t rest left → e ≡ defined t → Made config own outer bytes fuel e rest left
    made_defined : {own : Marked} {outer : List Marked} {bytes mid rest : List ℕ} {fuel left : ℕ} {t : DefValType} {e : FullEntry} → 0 < fuel - 1
        → ReadsAmong type_kinds bytes Defined mid → MadeDefined config own mid (fuel - 1) t rest left → e ≡ defined t
        → Made config own outer bytes fuel e rest left
    made_function : {own : Marked} {outer : List Marked} {bytes mid rest : List ℕ} {fuel left : ℕ} {s : Signature} {e : FullEntry} → 0 < fuel - 1
        → ReadsAmong type_kinds bytes Function mid → MadeFunction config own mid (fuel - 1) s rest left → e ≡ function s
        → Made config own outer bytes fuel e rest left
    made_component : {own : Marked} {outer : List Marked} {bytes mid rest : List ℕ} {fuel left : ℕ} {ds : FullDecls} {e : FullEntry} → 0 < fuel - 1
        → ReadsAmong type_kinds bytes Component mid
        → MadeDeclarations config true (own ∷ outer) 0 (nothing_so_far (own ∷ outer)) mid (fuel - 1) ds rest left → e ≡ component_type ds
        → Made config own outer bytes fuel e rest left
    made_instance : {own : Marked} {outer : List Marked} {bytes mid rest : List ℕ} {fuel left : ℕ} {ds : FullDecls} {e : FullEntry} → 0 < fuel - 1
        → ReadsAmong type_kinds bytes Instance mid
        → MadeDeclarations config false (own ∷ outer) 0 (nothing_so_far (own ∷ outer)) mid (fuel - 1) ds rest left → e ≡ instance_type ds
        → Made config own outer bytes fuel e rest left

  -- A declaration of a component type (true) or of an instance type (false), after its turn's fuel is taken.
  pub data MadeDeclaration (config : Config) : Bool → List Marked → SoFar → List ℕ → ℕ → FullDecl → List ℕ → ℕ → Type 0 where
    made_import : {importing : Bool} {outer : List Marked} {s : SoFar} {bytes rest : List ℕ} {fuel left : ℕ} {d : FullDecl} → importing ≡ true
        → ReadsImportDecl config s.own s.imports bytes d rest → left ≡ fuel → MadeDeclaration config importing outer s bytes fuel d rest left
    made_export : {importing : Bool} {outer : List Marked} {s : SoFar} {bytes mid low rest : List ℕ} {fuel left : ℕ} {d : FullDecl}
        → NoImportDecl config importing s.own bytes mid → ReadsAmong (declaration_items config outer s.own) mid item.Export low
        → ReadsExportDecl config s.own s.exports low d rest → left ≡ fuel → MadeDeclaration config importing outer s bytes fuel d rest left
    made_alias : {importing : Bool} {outer : List Marked} {s : SoFar} {bytes mid low rest : List ℕ} {fuel left : ℕ} {d : FullDecl}
        → NoImportDecl config importing s.own bytes mid → ReadsAmong (declaration_items config outer s.own) mid item.Alias low
        → ReadsAlias (s.own ∷ outer) low d rest → left ≡ fuel → MadeDeclaration config importing outer s bytes fuel d rest left
    made_core_type : {importing : Bool} {outer : List Marked} {s : SoFar} {bytes mid low rest : List ℕ} {fuel left : ℕ} {c : CoreEntry} {d : FullDecl}
        → NoImportDecl config importing s.own bytes mid
        → ReadsAmong (declaration_items config outer s.own) mid item.CoreType low → MadeCore config (scope_in s.own) low fuel c rest left
        → d ≡ core_type_decl c (keeps_functions (named_by_core s.own.core_types c)) → MadeDeclaration config importing outer s bytes fuel d rest left
    made_type : {importing : Bool} {outer : List Marked} {s : SoFar} {bytes mid low rest : List ℕ} {fuel left : ℕ} {e : FullEntry} {d : FullDecl}
        → NoImportDecl config importing s.own bytes mid → ReadsAmong (declaration_items config outer s.own) mid item.Type low
        → Made config s.own outer low fuel e rest left → d ≡ type_decl e → MadeDeclaration config importing outer s bytes fuel d rest left

  -- At most 100 declarations, `done` of which were made before. Each turn takes one from the fuel, and the loop ends if
  -- none is left then. It is a loop like those over members, written out since it nests types.
  pub data MadeDeclarations (config : Config) : Bool → List Marked → ℕ → SoFar → List ℕ → ℕ → FullDecls → List ℕ → ℕ → Type 0 where
    no_more_decls : {importing : Bool} {outer : List Marked} {done : ℕ} {s : SoFar} {bytes rest : List ℕ} {fuel left : ℕ}
        → More config.loop_bits done 0 100 bytes false rest
        → left ≡ fuel → MadeDeclarations config importing outer done s bytes fuel no_decls rest left
    spent_decls : {importing : Bool} {outer : List Marked} {done : ℕ} {s : SoFar} {bytes rest : List ℕ} {fuel left : ℕ}
        → More config.loop_bits done 0 100 bytes true rest
        → fuel - 1 ≡ 0 → left ≡ 0 → MadeDeclarations config importing outer done s bytes fuel no_decls rest left
    one_decl : {importing : Bool} {outer : List Marked} {done : ℕ} {s : SoFar} {bytes mid low rest : List ℕ} {fuel held left : ℕ} {d : FullDecl}
        {ds : FullDecls}
        → More config.loop_bits done 0 100 bytes true mid → 0 < fuel - 1
        → MadeDeclaration config importing outer s mid (fuel - 1) d low held
        → MadeDeclarations config importing outer (done + 1) (after_one outer s d) low held ds rest left
        → MadeDeclarations config importing outer done s bytes fuel (then_decls d ds) rest left

-- the same as a plain tree, whatever fuel is left
pub record MadeWith (config : Config) (own : Marked) (outer : List Marked) (fuel : ℕ) (bytes : List ℕ) (e : Entry) (rest : List ℕ) : Type 0 where
  pub full : FullEntry
  pub left : ℕ
  pub made : Made config own outer bytes fuel full rest left
  pub shown : e ≡ plain full
