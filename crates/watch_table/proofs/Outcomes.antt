-- What follows from what holds on success, and on an error.
use Rattle.std.specs.Prelude.{Result, Ok, Err, IfOk, OnOk, OnErr}

pub OnOk-map : {A B P Q : Type 0} (r : Result A B) → (P → Q) → OnOk r P → OnOk r Q
OnOk-map (Ok a) f h = f h
OnOk-map (Err b) f h = h

pub IfOk-map : {A B : Type 0} {P Q : A → Type 0} (r : Result A B) → ((a : A) → P a → Q a) → IfOk r P → IfOk r Q
IfOk-map (Ok a) f h = f a h
IfOk-map (Err b) f h = h

pub OnErr-map : {A B P Q : Type 0} (r : Result A B) → (P → Q) → OnErr r P → OnErr r Q
OnErr-map (Ok a) f h = h
OnErr-map (Err b) f h = f h
