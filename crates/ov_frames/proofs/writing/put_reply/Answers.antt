use Rattle.std.proofs.Common.{◌≡◌, ◌∷◌, ◌++◌, OnOk, ℕ, List, refl, ap, subst, ◌∙◌, append_assoc}
use Rattle.ov_base.specs.declared.errno.Errno.{Errno}
use Rattle.ov_base.specs.declared.reply.Reply.{Reply}
use Rattle.ov_base.specs.declared.reply.Reply.TheVariants.{Refused, Done, Status, Target, Value, Read, Names, AttributeNames, Descriptor, Written, Place, Watch, Unread}
use Rattle.ov_frames.specs.Requests.{u64}
use Rattle.ov_frames.specs.Replies.{reply_body, words_of}
use Rattle.ov_frames.proofs.writing.put_reply.Goals as goal

-- the bytes of a reply that is no refusal
answered_body : (place : ℕ) (reply : Reply) → ((e : Errno) → reply ≡ Refused e → ⊥)
    → 0 ∷ u64.written place ++ words_of reply ≡ reply_body place reply
answered_body place (Refused errno) differs = absurd (differs errno refl)
answered_body place Done differs = refl
answered_body place (Status status) differs = refl
answered_body place (Target bytes) differs = refl
answered_body place (Value bytes) differs = refl
answered_body place (Read bytes) differs = refl
answered_body place (Names names) differs = refl
answered_body place (AttributeNames names) differs = refl
answered_body place (Descriptor n) differs = refl
answered_body place (Written n) differs = refl
answered_body place (Place at) differs = refl
answered_body place (Watch watch) differs = refl
answered_body place (Unread notices) differs = refl

-- the words of such a reply, behind what it begins with
behind_head : (out head more : List ℕ) (place : ℕ) (reply : Reply)
    → ((e : Errno) → reply ≡ Refused e → ⊥)
    → head ≡ 0 ∷ 0 ∷ 0 ∷ 0 ∷ 0 ∷ u64.written place → more ≡ out ++ head
    → more ++ words_of reply ≡ out ++ 0 ∷ 0 ∷ 0 ∷ 0 ∷ reply_body place reply
behind_head out head more place reply differs is_head put =
    ap (λ (l : List ℕ). l ++ words_of reply) put ∙ append_assoc out head (words_of reply)
    ∙ ap (λ (l : List ℕ). out ++ (l ++ words_of reply)) is_head
    ∙ ap (λ (l : List ℕ). out ++ 0 ∷ 0 ∷ 0 ∷ 0 ∷ l) (answered_body place reply differs)

pub returns-in_ok-put_bytes-in_default-clause-ok : goal.returns-in_ok-put_bytes-in_default-clause-ok
returns-in_ok-put_bytes-in_default-clause-ok c =
    subst (λ (l : List ℕ). OnOk c.put_words.result (c.put_words.new.out.items ≡ l))
    (behind_head c.args.out.now.items c.reply_head-in_default.result
    c.put_bytes-in_default.new.out.items c.args.place c.args.reply.now c.in_default.not-Refused
    c.reply_head-in_default.ensures c.in_ok-put_bytes-in_default.ensures.ok)
    c.put_words.ensures.ok
