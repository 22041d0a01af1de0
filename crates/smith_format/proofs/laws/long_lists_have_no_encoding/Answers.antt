use Rattle.smith_format.proofs.TooLong.{many_none_where}
use Rattle.smith_format.proofs.laws.long_lists_have_no_encoding.Goals as goal

pub returns : goal.returns
returns g c = λ f xs. many_none_where f (λ x. (λ e. e, λ e. e)) xs
