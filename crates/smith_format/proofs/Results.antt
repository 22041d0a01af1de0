-- What follows for the value of a result.
use Rattle.std.specs.Prelude.{IfOk, Result, Ok, Err}

pub ok_then : {A E : Type 0} (P Q : A → Type 0) (r : Result A E) → ((x : A) → P x → Q x) → IfOk r P → IfOk r Q
ok_then P Q (Ok x) follows h = follows x h
ok_then P Q (Err e) follows h = h
