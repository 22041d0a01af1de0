-- Which types a script can say.
use Rattle.std.specs.Prelude.{ℕ, suc, ◌+◌, ◌-◌, ◌<◌, ◌≤◌, ◌^◌, List, ◌∷◌, length}
use Rattle.std.specs.List.{AllByRecursion}
use Rattle.smith_tree.specs.CoreTypeNeeds.{core_need}
use Rattle.smith_format.specs.declared.config.Config.{Config}
use Rattle.smith_syntax.specs.Entries.{DefValType, record_type, variant_type, tuple_type, flags_type, enum_type}
use Rattle.smith_syntax.specs.Entries.{Entry, defined, function, component_type, instance_type}
use Rattle.smith_syntax.specs.Entries.{Decl, Decls, core_type_decl, type_decl, no_decls, then_decls}
use Rattle.smith_syntax.specs.Marked.{Marked, scope_in, scopes_in_marked}
use Rattle.smith_syntax.specs.Usable.{OfferedEntry}
use Rattle.smith_syntax.specs.TypeLimits.{EntryLimits}
use Rattle.smith_syntax.specs.WellFormed.{FormedEntry, size}
use Rattle.smith_tree.specs.TypeNeeds.{decl_cost}
use Rattle.smith_tree.specs.ReadableTypes.{IsReadableType}

-- The fuel lasts for each member.
abbrev pub LastsDefined : ℕ → DefValType → Type 0
LastsDefined fuel (record_type fs) = length fs + 2 ≤ fuel
LastsDefined fuel (variant_type cs) = length cs + 2 ≤ fuel
LastsDefined fuel (tuple_type vs) = length vs + 2 ≤ fuel
LastsDefined fuel (flags_type ns) = length ns + 2 ≤ fuel
LastsDefined fuel (enum_type ns) = length ns + 2 ≤ fuel
LastsDefined fuel t = Unit {0}

-- The same if that many scopes are on the stack: fewer may be than the nesting allows when a type is declared in a
-- type.
abbrev mutual
  pub Lasts : Entry → Config → ℕ → ℕ → Type 0
  Lasts (defined t) config scopes fuel = LastsDefined fuel t
  Lasts (function s) config scopes fuel = size (function s) + 2 ≤ fuel
  Lasts (component_type ds) config scopes fuel = (2 ≤ fuel) × LastsDecls ds config (suc scopes) (fuel - 1)
  Lasts (instance_type ds) config scopes fuel = (2 ≤ fuel) × LastsDecls ds config (suc scopes) (fuel - 1)

  pub LastsDecl : Decl → Config → ℕ → ℕ → Type 0
  LastsDecl (core_type_decl t k) config scopes fuel = core_need t ≤ fuel
  LastsDecl (type_decl e) config scopes fuel = (scopes < config.max_nesting_depth) × Lasts e config scopes fuel
  LastsDecl d config scopes fuel = Unit {0}

  pub LastsDecls : Decls → Config → ℕ → ℕ → Type 0
  LastsDecls no_decls config scopes fuel = Unit {0}
  LastsDecls (then_decls d ds) config scopes fuel = (2 ≤ fuel) × LastsDecl d config scopes (fuel - 1) × LastsDecls ds config scopes (fuel - 1 - decl_cost d)

-- A choice among the scopes can be spelled, and one among what is in each.
pub record Fit (scopes : List Marked) : Type 0 where
  pub many : length scopes ≤ 2 ^ 64
  pub each : AllByRecursion (λ s. length s.types + length s.core_types ≤ 2 ^ 64) scopes

-- What a script can say of a type in these scopes with that much fuel left: it is well formed in them, all that it
-- names is offered, it is within the limits, its names can be read, the fuel lasts for it, and each choice in it can be
-- spelled, that of a name's length too.
pub record IsSayable (config : Config) (own : Marked) (outer : List Marked) (fuel : ℕ) (e : Entry) : Type 0 where
  pub formed : FormedEntry e (scope_in own) (scopes_in_marked outer)
  pub offered : OfferedEntry e own outer
  pub limits : EntryLimits config e
  pub readable : IsReadableType config e
  pub lasts : Lasts e config (length (own ∷ outer)) fuel
  pub fit : Fit (own ∷ outer)
  pub shallow : length (own ∷ outer) ≤ 1000
  pub names : config.max_name_length < 2 ^ 64
