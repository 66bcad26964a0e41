use Rattle.std.proofs.Common.{arith, ◌≡◌, ◌+◌, ℕ, List, [], ◌∷◌, ◌++◌, get_or, cond, nat_eq, take, Some, None, refl, sym, ap, ◌∙◌, subst, vec_len, length}
use Rattle.std.proofs.lemmas.List.{append-nil, length-append}
use Rattle.std.specs.Vec.{vec_capacity}
use Rattle.ov_base.specs.Calls.{Call}
use Rattle.ov_base.specs.declared.reply.Reply.{Reply}
use Rattle.overlay_core.specs.Views.{core_clients}
use Rattle.overlay_core.specs.Drives.{calls_of, Drives, DriveSteps, Answers, replies_to}
use Rattle.overlay_core.proofs.Driving.{drives-none, drives-more, drives-stay, keeps-on, kept-on, kept-same, none-before, none-here, open-at-most, passes-more, passes-start, replies-more, steps-more}
use Rattle.overlay_core.proofs.schedule.drive.Goals as goal
use Rattle.overlay_core.proofs.schedule.drive.Goals.{in-Some, in_default}

pub loop-index-init : goal.loop-index-init
loop-index-init g c =
    let none : c.in_ok-replies.replies.items ≡ [] = c.in_ok-replies.ensures.items in
    let empty : length c.in_ok-replies.replies.items ≡ 0 = ap length none in
    record {
      chain = (refl, refl, none);
      run = drives-none (calls_of c.args.jobs.now) c.args.core.now c.in_ok-replies.replies.items none;
      calls = refl;
      once = λ i. let e : replies_to i c.in_ok-replies.replies.items ≡ 0 = ap (replies_to i) none in omega arith;
      passed = passes-start (core_clients c.args.core.now) c.args.jobs.now c.args.schedule.now;
      idle = λ none. refl;
      finished = omega arith;
      few = omega arith;
      clients = record { attached = λ n. refl; next = refl };
      kept = kept-same c.args.core.now;
      room = omega (arith, open-at-most c.args.jobs.now, c.in_ok-replies.ensures.capacity, c.in_ok-replies.ensures.len);
    }

pub loop-index-preserved : goal.loop-index-preserved
loop-index-preserved g c =
    let I = c.loop-index.invariant in
    let i = get_or c.args.schedule.now c.loop-index.index-index 0 in
    let calls = calls_of c.args.jobs.now in
    let before = c.args.core.now in
    let between = c.loop-index.core in
    let after = c.one-reply.new.core in
    elim c.match-reply.branch [
      | in-Some w ↦
          let grown : c.match-reply.replies.items ≡ c.loop-index.replies.items ++ (i, w.in-Some.reply) ∷ [] = ap (λ v. v.items) w.replies-is ∙ w.push_reserved.ensures.items in
          let answers : Answers calls between i w.in-Some.reply after = subst (λ (cs : List (ℕ × Call)). Answers cs between i w.in-Some.reply after) I.calls w.in-Some.ensures.answers in
          let len : vec_len c.match-reply.replies ≡ vec_len c.loop-index.replies + 1 = ap (λ v. vec_len v) w.replies-is ∙ w.push_reserved.ensures.len in
          let capacity : vec_capacity c.match-reply.replies ≡ vec_capacity c.loop-index.replies = ap (λ v. vec_capacity v) w.replies-is ∙ w.push_reserved.ensures.capacity in
          let longer : length c.match-reply.replies.items ≡ length c.loop-index.replies.items + 1 = ap length grown ∙ length-append c.loop-index.replies.items ((i, w.in-Some.reply) ∷ []) in
          record {
            chain = subst (λ (rs : List (ℕ × Reply)). DriveSteps before c.args.jobs.now (take (c.loop-index.index-index + 1) c.args.schedule.now) rs after c.one-reply.new.jobs) (sym grown)
                (steps-more before between after c.args.jobs.now c.loop-index.jobs c.one-reply.new.jobs c.args.schedule.now c.loop-index.index-index c.loop-index.replies.items (Some w.in-Some.reply) (omega arith) I.chain w.in-Some.ensures.chain);
            run = subst (λ (rs : List (ℕ × Reply)). Drives calls before rs after) (sym grown) (drives-more calls before between after c.loop-index.replies.items i w.in-Some.reply I.run answers);
            calls = w.in-Some.ensures.calls ∙ I.calls;
            passed = λ n. passes-more (core_clients before) (core_clients between) c.args.jobs.now c.loop-index.jobs c.one-reply.new.jobs c.args.schedule.now c.loop-index.index-index n I.clients (omega arith) (I.passed n) (w.in-Some.ensures.passed n);
            idle = λ none.
                let clients = core_clients before in
                let were = core_clients between in
                let was = c.args.jobs.now in
                let asked = c.args.schedule.now in
                let now = c.loop-index.jobs in
                let at = c.loop-index.index-index in
                w.in-Some.ensures.idle
                (none-here clients were was now asked at (omega arith) none I.clients I.passed)
                ∙ I.idle (none-before clients were was now asked at (omega arith) none);
            finished = let so_far = I.finished in let here = w.in-Some.ensures.finished in omega (arith, so_far, here, longer);
            few = let so_far = I.few in omega (arith, so_far, longer);
            clients = keeps-on (core_clients before) (core_clients between) (core_clients after) I.clients w.in-Some.ensures.clients;
            kept = kept-on before between after I.kept w.in-Some.ensures.kept;
            once = λ n.
                let more : replies_to n c.match-reply.replies.items ≡ replies_to n c.loop-index.replies.items + cond (nat_eq i n) 1 0 = ap (replies_to n) grown ∙ replies-more n c.loop-index.replies.items (i, w.in-Some.reply) in
                let so_far = I.once n in
                let here = w.in-Some.ensures.once n in
                omega (arith, more, so_far, here);
            room = let so_far = I.room in let here = w.in-Some.ensures.room in omega (arith, so_far, here, len, capacity);
          }
      | in_default w ↦
          let same : c.match-reply.replies.items ≡ c.loop-index.replies.items = ap (λ v. v.items) w.replies-is in
          let len : vec_len c.match-reply.replies ≡ vec_len c.loop-index.replies = ap (λ v. vec_len v) w.replies-is in
          let capacity : vec_capacity c.match-reply.replies ≡ vec_capacity c.loop-index.replies = ap (λ v. vec_capacity v) w.replies-is in
          let long : length c.match-reply.replies.items ≡ length c.loop-index.replies.items = ap length same in
          record {
            chain = subst (λ (rs : List (ℕ × Reply)). DriveSteps before c.args.jobs.now (take (c.loop-index.index-index + 1) c.args.schedule.now) rs after c.one-reply.new.jobs) (append-nil c.loop-index.replies.items ∙ sym same)
                (steps-more before between after c.args.jobs.now c.loop-index.jobs c.one-reply.new.jobs c.args.schedule.now c.loop-index.index-index c.loop-index.replies.items None (omega arith) I.chain w.in_default.ensures.chain);
            run = subst (λ (rs : List (ℕ × Reply)). Drives calls before rs after) (sym same) (drives-stay calls before between after c.loop-index.replies.items I.run (w.in_default.ensures.stays refl));
            calls = w.in_default.ensures.calls ∙ I.calls;
            passed = λ n. passes-more (core_clients before) (core_clients between) c.args.jobs.now c.loop-index.jobs c.one-reply.new.jobs c.args.schedule.now c.loop-index.index-index n I.clients (omega arith) (I.passed n) (w.in_default.ensures.passed n);
            idle = λ none.
                let clients = core_clients before in
                let were = core_clients between in
                let was = c.args.jobs.now in
                let asked = c.args.schedule.now in
                let now = c.loop-index.jobs in
                let at = c.loop-index.index-index in
                w.in_default.ensures.idle
                (none-here clients were was now asked at (omega arith) none I.clients I.passed)
                ∙ I.idle (none-before clients were was now asked at (omega arith) none);
            finished = let so_far = I.finished in let here = w.in_default.ensures.finished in omega (arith, so_far, here, long);
            few = let so_far = I.few in omega (arith, so_far, long);
            clients = keeps-on (core_clients before) (core_clients between) (core_clients after) I.clients w.in_default.ensures.clients;
            kept = kept-on before between after I.kept w.in_default.ensures.kept;
            once = λ n.
                let more : replies_to n c.match-reply.replies.items ≡ replies_to n c.loop-index.replies.items = ap (replies_to n) same in
                let so_far = I.once n in
                let here = w.in_default.ensures.once n in
                omega (arith, more, so_far, here);
            room = let so_far = I.room in let here = w.in_default.ensures.room in omega (arith, so_far, here, len, capacity);
          }
    ]
