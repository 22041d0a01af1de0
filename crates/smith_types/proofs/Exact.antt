-- Which types are read: exactly the types that are well formed, of what was offered and within the limits, whose names
-- can be read, for which there is fuel, and that nest.
use Rattle.std.proofs.Common.{ℕ, zero, suc, ◌+◌, ◌-◌, ◌≤◌, ◌<◌, ◌^◌, List, [], ◌∷◌, ◌++◌, length, arith, subst, sym}
use Rattle.std.specs.Prelude.{max, ◌↔◌}
use Rattle.smith_input.specs.Script.{AreBytes}
use Rattle.smith_input.proofs.Utf8Bytes.{joined_bytes}
use Rattle.smith_format.specs.declared.config.Config.{Config}
use Rattle.smith_syntax.specs.Entries.{DefValType, record_type, variant_type, tuple_type, flags_type, enum_type, Entry, defined, function, component_type}
use Rattle.smith_syntax.specs.Entries.{instance_type, plain, Decl, Decls, core_type_decl, type_decl, no_decls, then_decls}
use Rattle.smith_syntax.specs.Marked.{Marked, scope_in, scopes_in_marked}
use Rattle.smith_syntax.specs.Scope.{Scope, empty_scope, after_decl}
use Rattle.smith_syntax.specs.Usable.{OfferedEntry}
use Rattle.smith_syntax.specs.TypeLimits.{EntryLimits}
use Rattle.smith_syntax.specs.WellFormed.{FormedDefined, FormedEntry, FormedDeclaration, FormedDeclarations}
use Rattle.smith_types.specs.Made.{MadeWith}
use Rattle.smith_tree.specs.TypeNeeds.{need_of, need, decl_need, decls_need, declaring, decl_cost}
use Rattle.smith_tree.proofs.TypeNeeds.{Nests, DeclNests, DeclsNest, declared_within, nests_within}
use Rattle.smith_tree.specs.ReadableTypes.{IsReadableType}
use Rattle.smith_types.specs.Sayable.{Fit, IsSayable, Lasts, LastsDecl, LastsDecls, LastsDefined}
use Rattle.smith_tree.specs.TypeScript.{script_type}
use Rattle.smith_types.proofs.MadeFits.{made_fits}
use Rattle.smith_types.proofs.ScopedScript.{type_bytes, type_read}

at_least : (n fuel : ℕ) → 1 ≤ n → need_of n ≤ fuel → n + 2 ≤ fuel
at_least zero fuel h l = absurd (omega arith)
at_least (suc n) fuel h l = l

defined_lasts : (t : DefValType) (own : Scope) (fuel : ℕ) → FormedDefined t own → need (defined t) ≤ fuel → LastsDefined fuel t
defined_lasts (record_type fs) own fuel f n = at_least (length fs) fuel f.2 n
defined_lasts (variant_type cs) own fuel f n = at_least (length cs) fuel f.2 n
defined_lasts (tuple_type vs) own fuel f n = at_least (length vs) fuel f.1 n
defined_lasts (flags_type ns) own fuel f n = at_least (length ns) fuel f.1 n
defined_lasts (enum_type ns) own fuel f n = at_least (length ns) fuel f.1 n
defined_lasts t own fuel f n = tt

turn : (a b c fuel : ℕ) → max 2 (max (a + 1) (b + c + 1)) ≤ fuel → (2 ≤ fuel) × (a ≤ fuel - 1) × (b ≤ fuel - 1 - c)
turn a b c fuel h = (omega (arith, h), omega (arith, h), omega (arith, h))

scoped : (a fuel : ℕ) → max 2 (a + 1) ≤ fuel → (2 ≤ fuel) × (a ≤ fuel - 1)
scoped a fuel h = (omega (arith, h), omega (arith, h))

mutual
  pub lasts : (e : Entry) (config : Config) (own : Scope) (outer : List Scope) (scopes fuel : ℕ) → FormedEntry e own outer → Nests e config scopes
      → need e ≤ fuel → Lasts e config scopes fuel
  lasts (defined t) config own outer scopes fuel f x n = defined_lasts t own fuel f n
  lasts (function s) config own outer scopes fuel f x n = n
  lasts (component_type ds) config own outer scopes fuel f x n = let p = scoped (decls_need ds) fuel n in
      (p.0, decls_last ds config empty_scope (own ∷ outer) (suc scopes) (fuel - 1) f.0 x p.1)
  lasts (instance_type ds) config own outer scopes fuel f x n = let p = scoped (decls_need ds) fuel n in
      (p.0, decls_last ds config empty_scope (own ∷ outer) (suc scopes) (fuel - 1) f.0 x p.1)

  decl_lasts : (d : Decl) (config : Config) (own : Scope) (outer : List Scope) (scopes fuel : ℕ) → FormedDeclaration d own outer
      → DeclNests d config scopes → decl_need d ≤ fuel → LastsDecl d config scopes fuel
  decl_lasts (core_type_decl t k) config own outer scopes fuel f x n = n
  decl_lasts (type_decl e) config own outer scopes fuel f x n = (x.0, lasts e config own outer scopes fuel f x.1 n)
  decl_lasts d config own outer scopes fuel f x n = tt

  decls_last : (ds : Decls) (config : Config) (own : Scope) (outer : List Scope) (scopes fuel : ℕ) → FormedDeclarations ds own outer
      → DeclsNest ds config scopes → decls_need ds ≤ fuel → LastsDecls ds config scopes fuel
  decls_last no_decls config own outer scopes fuel f x n = tt
  decls_last (then_decls d ds) config own outer scopes fuel f x n =
      let p = turn (decl_need d) (decls_need ds) (decl_cost d) fuel n in (
        p.0,
        decl_lasts d config own outer scopes (fuel - 1) f.0 x.0 p.1,
        decls_last ds config (after_decl outer own d) outer scopes (fuel - 1 - decl_cost d) f.1 x.1 p.2,
      )

-- What is asked of a type to be read in these scopes with that much fuel.
abbrev Asked : Config → Marked → List Marked → ℕ → Entry → Type 0
Asked config own outer fuel e =
    FormedEntry e (scope_in own) (scopes_in_marked outer) × OfferedEntry e own outer × EntryLimits config e × IsReadableType config e × (need e ≤ fuel)
    × (length (own ∷ outer) + declaring e ≤ max (length (own ∷ outer)) config.max_nesting_depth)

pub exact : (config : Config) (own : Marked) (outer : List Marked) (fuel : ℕ) (e : Entry) → config.max_nesting_depth ≤ 1000 → Fit (own ∷ outer)
    → length (own ∷ outer) ≤ 1000 → config.max_name_length < 2 ^ 64
    → ((bytes rest : List ℕ) × AreBytes bytes × MadeWith config own outer fuel bytes e rest) ↔ Asked config own outer fuel e
exact config own outer fuel e deep fit few short = (
  λ (bytes, rest, all, made).
      let f = made_fits made.made in
      subst (Asked config own outer fuel) (sym made.shown)
      (f.is.0, f.is.1, f.limits, f.readable, f.takes.enough, declared_within (plain made.full) config (length (own ∷ outer)) f.nests),
  λ (f, o, m, names, n, x).
      let sayable : IsSayable config own outer fuel e = record {
        formed = f;
        offered = o;
        limits = m;
        readable = names;
        lasts = lasts e config (scope_in own) (scopes_in_marked outer) (length (own ∷ outer)) fuel f (nests_within e config (length (own ∷ outer)) x) n;
        fit = fit;
        shallow = few;
        names = short;
      } in (
        script_type e config fuel own outer ++ [],
        [],
        joined_bytes (script_type e config fuel own outer) [] (type_bytes config own outer fuel e deep sayable) tt,
        type_read config short deep own outer fuel e [] sayable,
      ),
)
