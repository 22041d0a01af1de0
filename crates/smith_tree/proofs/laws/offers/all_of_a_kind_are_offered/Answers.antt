use Rattle.smith_tree.proofs.Unmarked.{components_unmarked, equals_unmarked, functions_unmarked, instances_unmarked, room_unmarked, values_unmarked}
use Rattle.smith_tree.proofs.laws.offers.all_of_a_kind_are_offered.Goals as goal

pub returns-clause-values : goal.returns-clause-values
returns-clause-values c own nothing = values_unmarked own nothing

pub returns-clause-functions : goal.returns-clause-functions
returns-clause-functions c own for_import nothing = functions_unmarked own nothing for_import

pub returns-clause-types : goal.returns-clause-types
returns-clause-types c own for_import nothing = equals_unmarked own nothing for_import

pub returns-clause-components : goal.returns-clause-components
returns-clause-components c own for_import nothing = components_unmarked own nothing for_import

pub returns-clause-instances : goal.returns-clause-instances
returns-clause-instances c own for_import nothing = instances_unmarked own nothing for_import

pub returns-clause-room : goal.returns-clause-room
returns-clause-room c own for_type_def nothing = room_unmarked own nothing for_type_def
