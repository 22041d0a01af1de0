use Rattle.std.proofs.Common.{Some, ap, sym, ◌∙◌, length, refl, subst}
use Rattle.std.proofs.lemmas.Option.{slice_get_read}
use Rattle.smith_scope.specs.Parts.{IsCorePart}
use Rattle.smith_scope.proofs.ModuleSteps.{size_at}
use Rattle.smith_scope.proofs.module_sizes.ModuleSize.aliased.Goals as goal

pub returns-in-Func : goal.returns-in-Func
returns-in-Func g c = λ fs o.
    let around = c.args.around.now in
    let t = c.in_ok-get-in-1.field-0.now in
    let l = (c.in_ok-get-in-1.ensures {u = tt}).lookup in
    let is = slice_get_read around (length around) c.args.index t refl l.3.0 l.1 in
    let part = subst (IsCorePart g.C.Tree.Decl.ModuleTree.plain (g.C.Tree.CoreTree.plain c.tree.result.now)) c.in-Func.is c.part.ensures in
    let shows = ap g.C.Tree.CoreTree.plain (sym c.tree.ensures) ∙ part in
    rw (c.in-1.is)
    (ap (λ n. Some n) c.function_size.ensures ∙ sym (size_at g.C.CoreTyped.tree g.C.Tree.CoreTree.plain around c.args.index t is _ shows))

pub returns-in-Module : goal.returns-in-Module
returns-in-Module g c = λ fs o.
    let around = c.args.around.now in
    let t = c.in_ok-get-in-1.field-0.now in
    let l = (c.in_ok-get-in-1.ensures {u = tt}).lookup in
    let is = slice_get_read around (length around) c.args.index t refl l.3.0 l.1 in
    let part = subst (IsCorePart g.C.Tree.Decl.ModuleTree.plain (g.C.Tree.CoreTree.plain c.tree.result.now)) c.in-Module.is c.part.ensures in
    let shows = ap g.C.Tree.CoreTree.plain (sym c.tree.ensures) ∙ part in
    rw (c.in-1.is) (sym (size_at g.C.CoreTyped.tree g.C.Tree.CoreTree.plain around c.args.index t is _ shows))
