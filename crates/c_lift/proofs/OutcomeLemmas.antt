-- What an outcome's success gives.
use Rattle.std.specs.Prelude.{Result, Ok, Err, IfOk}

pub if_ok : {A E : Type 0} {P R : A → Type 0} (r : Result A E) → IfOk r P → ((a : A) → P a → R a) → IfOk r R
if_ok (Ok a) p f = f a p
if_ok (Err e) p f = tt

pub if_ok2 : {A E : Type 0} {P Q R : A → Type 0} (r : Result A E) → IfOk r P → IfOk r Q → ((a : A) → P a → Q a → R a) → IfOk r R
if_ok2 (Ok a) p q f = f a p q
if_ok2 (Err e) p q f = tt
