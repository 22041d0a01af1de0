use Rattle.std.proofs.Common.{◌+◌, ◌*◌}
use Rattle.lupinanon.proofs.show.types.+showing.Given as goal

abbrev pub decreases-show_decl : goal.decreases-show_decl
decreases-show_decl g l = 3 * l.depth

abbrev pub decreases-show_decls : goal.decreases-show_decls
decreases-show_decls g l = 3 * l.depth + 1

abbrev pub decreases-show_type : goal.decreases-show_type
decreases-show_type g l = 3 * l.depth + 2
