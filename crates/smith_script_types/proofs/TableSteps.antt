-- What is kept of the declarations of a module type, with one more.
use Rattle.std.proofs.Common.{◌≡◌, ◌<◌, ℕ, ◌+◌, List, [], ◌∷◌, ◌++◌, get_or, length, map, take, ap, sym, subst, ◌∙◌, arith, append-nil, if◌then◌else◌}
use Rattle.std.proofs.lemmas.Grind.{flat_map-append}
use Rattle.std.proofs.lemmas.List.{length-map, map-append, map_more}
use Rattle.std.specs.Borrow.{Bor}
use Rattle.smith_format.specs.CoreTypes.{Function}
use Rattle.smith_format.specs.Shown.{shown_func}
use Rattle.smith_format.specs.declared.types.FuncType.{FuncType}
use Rattle.smith_syntax.specs.Entries.{ModuleDecl}
use Rattle.smith_syntax.specs.ModuleTypes.{declared_in, func_of, is_tag_type}
use Rattle.smith_syntax.specs.Places.{places}
use Rattle.smith_scope.proofs.Places.{places-append}
use Rattle.smith_read.specs.Nodes.{shown_module_node}
use Rattle.smith_read.specs.declared.core_types.ModuleNode.{ModuleNode}
use Rattle.smith_script_types.specs.Tables.{Keeps, functions_in}
use Rattle.smith_script_types.specs.declared.tables.Tables.{Tables}
use Rattle.smith_read.proofs.ShownNodes.{shown_nodes}
use Rattle.smith_script_types.proofs.Saying.{saying}

-- the nodes of a list up to one, and it
pub shown_more : (xs : List ModuleNode) (i : ℕ) (x : ModuleNode) → i < length xs → x ≡ get_or xs i x
    → map shown_module_node (take i xs) ++ shown_module_node x ∷ [] ≡ map shown_module_node (take (i + 1) xs)
shown_more xs i x h is =
    sym (map_more shown_module_node xs i x h ∙ ap (λ y. map shown_module_node (take i xs) ++ shown_module_node y ∷ []) (sym is))

-- the indexes of the types of tags, with one more own type
pub tags_more : (own : List (Bor FuncType)) (g : Bor FuncType)
    → places is_tag_type 0 (functions_in (own ++ g ∷ []))
    ≡ places is_tag_type 0 (functions_in own) ++ (if is_tag_type (shown_func g.now) then length own ∷ [] else [])
tags_more own g =
    let count : 0 + length (functions_in own) ≡ length own = omega (arith, length-map own (λ f. shown_func f.now)) in
    ap (places is_tag_type 0) (map-append (λ f. shown_func f.now) own (g ∷ [])) ∙ places-append is_tag_type 0 (functions_in own) (functions_in (g ∷ []))
    ∙ ap (λ n. places is_tag_type 0 (functions_in own) ++ (if is_tag_type (shown_func g.now) then n ∷ [] else [])) count

-- the tables of declarations that declare their types themselves
pub front_kept : {t : Tables} (ds : List ModuleDecl) (d : ModuleDecl) (fs : List Function) → fs ≡ func_of d → Keeps t (declared_in ds ++ fs) (ds ++ d ∷ [])
    → Keeps t (declared_in (ds ++ d ∷ [])) (ds ++ d ∷ [])
front_kept {t} ds d fs e =
    subst (λ (gs : List Function). Keeps t gs (ds ++ d ∷ []))
    (ap (λ gs. declared_in ds ++ gs) (e ∙ sym (append-nil (func_of d))) ∙ sym (flat_map-append func_of ds (d ∷ [])))

-- the same tables, of what is equal
pub kept_at : {t : Tables} {own : List Function} {ds es : List ModuleDecl} → Keeps t own ds → es ≡ ds → Keeps t (functions_in t.own.items) es
kept_at {t} {own} {ds} {es} h e = subst (λ (fs : List Function). Keeps t fs es) (sym h.own) (subst (Keeps t own) (sym e) h)

-- What proves the steps of writers of scripts over the types that are read.

pub ruleset nodes = (saying, shown_nodes)
