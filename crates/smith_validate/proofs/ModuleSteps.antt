-- The declarations of a module type one by one.
use Rattle.std.proofs.Common.{
  ◌≡◌,
  ℕ,
  ◌+◌,
  ◌<◌,
  ◌≤◌,
  List,
  [],
  ◌∷◌,
  ◌++◌,
  map,
  length,
  get_or,
  sym,
  ap,
  ◌∙◌,
  subst,
  refl,
  arith,
  Option,
  Some,
  None,
}
use Rattle.std.proofs.Math.ListN.{drop}
use Rattle.std.proofs.lemmas.Grind.{flat_map-append}
use Rattle.std.proofs.lemmas.List.{length-append, map-append}
use Rattle.std.proofs.lemmas.List.Elements.{filter-append}
use Rattle.std.proofs.lemmas.Option.{slice_get-map}
use Rattle.std.specs.Option.{option_map}
use Rattle.std.specs.Prelude.{slice_get}
use Rattle.smith_format.specs.CoreTypes.{Function}
use Rattle.smith_format.specs.declared.types.ExportKind.{ExportKind}
use Rattle.smith_format.specs.declared.types.ExportKind.TheVariants as kind
use Rattle.smith_input.proofs.Rests.{drop_past, rest_at}
use Rattle.smith_syntax.specs.Entries.{CoreEntry, ModuleDecl, core_func, core_module}
use Rattle.smith_syntax.specs.ModuleTypes.{adds, func_in}
use Rattle.smith_tree.specs.Demands.{everything}
use Rattle.smith_tree.specs.Facts.{CoreFacts}
use Rattle.smith_tree.specs.Sizes.{ValidCore, core_size, imported_of_kind, module_size}
use Rattle.smith_read.specs.Nodes.{shown_module_node}
use Rattle.smith_read.specs.declared.core_types.ModuleNode.{ModuleNode}
use Rattle.smith_syntax.specs.Sizes.{capped}
use Rattle.smith_syntax.specs.OwnSizes.{added_size, sizes_in}
use Rattle.smith_syntax.proofs.AliasSizes.{kept_size}
use Rattle.smith_validate.specs.Kept.{kept_core}
use Rattle.smith_validate.specs.Modules.{Fits, Grows, IsSmallModule, memories_in, tables_in}
use Rattle.smith_validate.specs.declared.core_types.Module.{Module}
use Rattle.smith_validate.specs.declared.error.Stop.{Stop}
use Rattle.smith_validate.specs.declared.facts.CoreFacts.{CoreFacts as KeptCore}
use Rattle.smith_validate.specs.declared.facts.CoreFacts.TheVariants as core
use Rattle.smith_validate.specs.Judges.{Refutes}
use Rattle.smith_validate.proofs.Judging.{keeps_by, refute_by}

-- the size of a core function type
func_size : Option KeptCore → Option ℕ
func_size None = None
func_size (Some (core.Func n)) = Some n
func_size (Some (core.Module n)) = None

size_kept : (o : Option CoreFacts) → kept_size (func_in (option_map (λ f. f.entry) o)) ≡ func_size (option_map kept_core o)
unfolding func_size
size_kept None = refl
size_kept (Some f) = elim f.entry as (λ e. kept_size (func_in (Some e)) ≡ func_size (Some (kept_core (record { entry = e; size = f.size }))))
    [ core_func g ↦ refl | core_module ds ↦ refl ]

module _ (fs : List CoreFacts) (i : ℕ) where
  size_at : kept_size (func_in (slice_get (map (λ f. f.entry) fs) i)) ≡ func_size (slice_get (map kept_core fs) i)
  size_at = ap (λ o. kept_size (func_in o)) (slice_get-map (λ f. f.entry) fs i) ∙
      (size_kept (slice_get fs i) ∙ sym (ap func_size (slice_get-map kept_core fs i)))

  pub alias_found : (n : ℕ) → slice_get (map kept_core fs) i ≡ Some (core.Func n) → Some n ≡ kept_size (func_in (slice_get (map (λ f. f.entry) fs) i))
  unfolding func_size
  alias_found n e = sym (size_at ∙ ap func_size e)

  pub alias_missing : (n : ℕ) → slice_get (map kept_core fs) i ≡ Some (core.Module n) → None ≡ kept_size (func_in (slice_get (map (λ f. f.entry) fs) i))
  unfolding func_size
  alias_missing n e = sym (size_at ∙ ap func_size e)

-- imports of a kind
pub kinds_more : (k : ExportKind) (d : ModuleDecl) (ds : List ModuleDecl) → imported_of_kind k (d ∷ ds) ≡ imported_of_kind k (d ∷ []) + imported_of_kind k ds
kinds_more k d ds = grind (arith, flat_map-append, map-append, filter-append, length-append)

-- What was judged and what is left are the whole.
pub record Left (around : List CoreEntry) (all : List ModuleDecl) (m : Module) (rest : List ModuleDecl) : Type 0 where
  pub fs : List Function
  pub own_is : m.own.items ≡ sizes_in fs
  pub size_is : module_size around [] all + 1 ≡ m.size + module_size around fs rest
  pub memories_are : imported_of_kind kind.Memory all ≡ m.memories + imported_of_kind kind.Memory rest
  pub tables_are : imported_of_kind kind.Table all ≡ m.tables + imported_of_kind kind.Table rest
  pub small : IsSmallModule m

pub left_all : (around : List CoreEntry) (all : List ModuleDecl) (m : Module) → m.own.items ≡ [] → m.size ≡ 1 → m.memories ≡ 0 → m.tables ≡ 0
    → Left around all m all
left_all around all m o s n t = record {
  fs = [];
  own_is = o;
  size_is = omega (arith, s);
  memories_are = omega (arith, n);
  tables_are = omega (arith, t);
  small = record { size = omega (arith, s); memories = omega (arith, n); tables = omega (arith, t) };
}

module _ (around : List CoreEntry) (all : List ModuleDecl) (m : Module) (d : ModuleDecl) (rest : List ModuleDecl) where
  pub left_more : (l : Left around all m (d ∷ rest)) (new : Module) → Fits everything m (added_size l.fs d) (memories_in d) (tables_in d)
      → Grows m new (added_size l.fs d) (memories_in d) (tables_in d) → new.own.items ≡ sizes_in (l.fs ++ adds around l.fs d) → Left around all new rest
  left_more l new f g o = record {
    fs = l.fs ++ adds around l.fs d;
    own_is = o;
    size_is = omega (arith, l.size_is, g.size_is);
    memories_are = omega (arith, l.memories_are, g.memories_are, kinds_more kind.Memory d rest);
    tables_are = omega (arith, l.tables_are, g.tables_are, kinds_more kind.Table d rest);
    small = record {
      size = omega (arith, f.size_fits, g.size_is);
      memories = omega (arith, f.memories_fit, g.memories_are);
      tables = omega (arith, f.tables_fit, g.tables_are);
    };
  }

  pub left_exit : {e : Stop} (l : Left around all m (d ∷ rest)) → Refutes e (λ a. Fits a m (added_size l.fs d) (memories_in d) (tables_in d))
      → Refutes e (λ a. ValidCore a around (core_module all))
  left_exit l r = refute_by
      (λ a v. record {
        size_fits = keeps_by a.sizes (λ q. omega (arith, l.size_is, q)) v.0;
        memories_fit = keeps_by a.memories (λ q. omega (arith, l.memories_are, q, kinds_more kind.Memory d rest)) v.1;
        tables_fit = keeps_by a.tables (λ q. omega (arith, l.tables_are, q, kinds_more kind.Table d rest)) v.2;
      })
      r

module _ (around : List CoreEntry) (all : List ModuleDecl) (m : Module) (l : Left around all m []) where
  pub left_none : ValidCore everything around (core_module all)
  left_none = (omega (arith, l.size_is, l.small.size), omega (arith, l.memories_are, l.small.memories), omega (arith, l.tables_are, l.small.tables))

  pub size_none : m.size ≡ capped (core_size around (core_module all))
  size_none = omega (arith, l.size_is, l.small.size)

-- what is left of the declarations of a node
module _ (around : List CoreEntry) (ds : List ModuleNode) (m : Module) (i : ℕ) where
  abbrev pub LeftFrom : Type 0
  LeftFrom = Left around (map shown_module_node ds) m (map shown_module_node (drop i ds))

  pub left_at : (d : ModuleNode) → i < length ds → d ≡ get_or ds i d → LeftFrom
      → Left around (map shown_module_node ds) m (shown_module_node d ∷ map shown_module_node (drop (i + 1) ds))
  left_at d h e l = subst (λ ys. Left around (map shown_module_node ds) m (map shown_module_node ys)) (rest_at ds i d h e) l

  pub left_end : length ds ≤ i → LeftFrom → Left around (map shown_module_node ds) m []
  left_end h l = subst (λ ys. Left around (map shown_module_node ds) m (map shown_module_node ys)) (drop_past ds i h) l
