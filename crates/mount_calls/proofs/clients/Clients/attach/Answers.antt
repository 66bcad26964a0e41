use Rattle.std.proofs.Common.{rules, arith, ◌≡◌, true, Option, Some, None, is_some, refl}
use Rattle.mount_calls.proofs.clients.Clients.attach.Goals as goal

-- what is not there is none
absent : {A : Type 0} (o : Option A) → (is_some o ≡ true → ⊥) → o ≡ None
absent None h = cc
absent (Some x) h = absurd (h cc)

pub returns-clause-attached : goal.returns-clause-attached
returns-clause-attached c = record {
  next = refl;
  fresh = absent _ (λ taken. let before = c.args.self.now.rising c.args.self.now.next taken in omega arith);
  descriptors = c.new.result;
  there = search rules;
  none = c.new.ensures;
  others = search rules;
  places = refl;
  rises = refl;
}
