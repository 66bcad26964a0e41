use Rattle.std.proofs.Common.{rules, arith, ◌≡◌, ℕ, Bool, List, length, nat_lt, not, filter, map, ap, ◌∙◌}
use Rattle.std.proofs.lemmas.Fn.{filter_same}
use Rattle.plain_model.specs.Watching.{Watch, Instance, ends}
use Rattle.watch_table.specs.Subjects.{subject_of}
use Rattle.watch_table.proofs.Hearing.{IsInstance-filter}
use Rattle.watch_table.proofs.listener.Listener.hear.Goals as goal

pub invariant_of-self : goal.invariant_of-self
invariant_of-self g c =
    let p : Watch → Bool = λ w. not (ends c.self.inside.client (subject_of c.args.subject.now) w) in
    let stay : c.retain.new.self.items ≡ filter p c.self.inside.watches.items =
    filter_same _ _ _ (λ x b f' k. search rules) _ _ c.retain.ensures.filtered in
    (rw stay (IsInstance-filter _ p c.tell_watches.new.queue c.self.invariant.0), rw c.retain.ensures.capacity c.self.invariant.1)

pub returns : goal.returns
returns g c =
    let stay : c.retain.new.self.items ≡ filter (λ w. not (ends c.self.inside.client
    (subject_of c.args.subject.now) w)) c.self.inside.watches.items =
    filter_same _ _ _ (λ x b f' k. search rules) _ _ c.retain.ensures.filtered in
    let with : List Watch → Instance = λ ws. record {
      client = c.self.inside.client;
      tags = map (λ h. h.tag) c.self.inside.hooks.items;
      watches = ws;
      armed = c.self.inside.armed;
      queue = c.tell_watches.new.queue;
    } in
    let before : c.len-before.result ≡ length c.self.inside.watches.items = omega (arith, c.len-before.ensures, c.self.inside.watches.ok) in
    let after : c.len.result ≡ length c.retain.new.self.items = omega (arith, c.len.ensures, c.retain.new.self.ok) in
    rw (← c.self.view_is) (record {
      hears = record {
        watches = ap with stay;
        queue =
            rw (c.as_slice.ensures.value, c.as_slice-2.ensures.value) at c.tell_watches.ensures.puts;
      };
      ended = ap (λ (m : ℕ). nat_lt c.len.result m) before ∙ ap (λ (m : ℕ). nat_lt m (length c.self.inside.watches.items)) after;
      event = c.tell_watches.ensures.event;
    })
