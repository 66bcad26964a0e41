-- How the play of a script goes on from line to line.
use Rattle.std.proofs.Common.{◌≡◌, ◌+◌, ◌<◌, ◌≤◌, ℕ, List, [], ◌∷◌, ◌++◌, Option, Some, None, Bool, true, false, nat_eq, position, get_or, take, drop, length, refl, sym, ap, ◌∙◌, arith, append_assoc, append-nil, length-append, subst, IfErr, IfSome, MatchOption, OnOk, Result, Ok, Err, inl, inr}
use Rattle.std.specs.List.{All, position_or_len}
use Rattle.std.specs.Io.KnownBytes.{Consumes, IsAtEnd, Keeps}
use Rattle.std.proofs.lemmas.Bool.{ltb-true}
use Rattle.std.proofs.lemmas.Option.{cond_some}
use Rattle.std.proofs.lemmas.List.{get_or-take, length-take}
use Rattle.std.proofs.lemmas.List.Elements.{All-append, All-nil}
use Rattle.std.proofs.lemmas.List.Sums.{fails_before_first, passes_at_first, split_at_first}
use Rattle.std.proofs.lemmas.List.Splits.{slice_split_none, slice_split_at}
use Rattle.ov_base.proofs.PathLemmas.{none-passes}
use Rattle.watch_table.specs.declared.hook.Callback.{Ghosts as Callback}
use Rattle.watch_table.specs.declared.hook.Rule.{Ghosts as Rule}
use Rattle.ov_server.specs.declared.fault.DeviceFault.{DeviceFault}
use Rattle.ov_server.specs.declared.fault.DeviceFault.TheVariants.{Stream, Memory}
use Rattle.ov_server.specs.declared.play.PlayFault.{PlayFault}
use Rattle.ov_server.specs.declared.play.PlayFault.TheVariants.{BadLine, Device}
use Rattle.ov_server.specs.declared.stage.Stage.{Stage}
use Rattle.ov_devices.specs.Devices.{Reads}
use Rattle.ov_server.specs.Devices.{IsInputFault, IsToldBy, Notes}
use Rattle.ov_server.specs.Plays.{EndsBy, GoesOn, IsBadOn, IsLineFault, IsPlayFault, IsPlayed, IsRosterOf, IsStreamFault, PlaysLine, TellsPlay, layers_in}
use Rattle.ov_server.specs.Rosters.{ArePlayed, Layering, LineLeaves, Roster, is_good, nobody}
use Rattle.ov_server.specs.Scripts.{IsBadLine, IsGoodScript, script_lines}

-- no byte of a list is a line break
abbrev pub NoBreak : List ℕ → Type 0
NoBreak bytes = All (λ b. nat_eq b 10 ≡ false) bytes

-- a text up to its first line break, that break, and what follows
pub record AtBreak (text front after : List ℕ) : Type 0 where
  pub break : ℕ
  pub is_break : nat_eq break 10 ≡ true
  pub cut : text ≡ front ++ break ∷ after
  pub front_unbroken : NoBreak front

-- before the first line break there is none
front_unbroken_to : (text : List ℕ) (n : ℕ) → n ≤ position_or_len (λ b. nat_eq b 10) text → n ≤ length text → NoBreak (take n text)
front_unbroken_to text n le within k d lt =
    let below : k < n = omega (arith, length-take n text) in
    let before : k < position_or_len (λ b. nat_eq b 10) text = omega arith in
    rw (get_or-take n text k d below) (fails_before_first (λ b. nat_eq b 10) text k d before)

-- a text at the line break that a search finds
pub at_break : (text : List ℕ) (place : ℕ) → Some place ≡ position (λ b. nat_eq b 10) text → AtBreak text (take place text) (drop (place + 1) text)
at_break text place found =
    let there = cond_some _ _ _ (sym found) in
    let p : ℕ → Bool = λ b. nat_eq b 10 in
    let within : position_or_len p text < length text = ltb-true _ _ there.0 in
    let zero : ℕ = 0 in
    let at_first : AtBreak text (take (position_or_len p text) text) (drop (position_or_len p text + 1) text) = record {
      break = get_or text (position_or_len p text) zero;
      is_break = passes_at_first p text zero within;
      cut = split_at_first p text zero within;
      front_unbroken = front_unbroken_to text (position_or_len p text) (omega arith) (omega arith);
    } in
    let P : ℕ → Type 0 = λ n. AtBreak text (take n text) (drop (n + 1) text) in
    subst P there.1 at_first

-- a text in which a search finds no line break
pub no_break : (text : List ℕ) → None ≡ position (λ b. nat_eq b 10) text → NoBreak text
no_break text none = none-passes (λ b. nat_eq b 10) text (sym none)

-- the begun line ends at a line break
line_cut : (begun front after more : List ℕ) (b : ℕ) → NoBreak begun → NoBreak front → nat_eq b 10 ≡ true → script_lines (begun ++ ((front ++ b ∷ after) ++ more)) ≡ (begun ++ front) ∷ script_lines (after ++ more)
line_cut begun front after more b unbroken front_unbroken is =
    ap script_lines (ap (λ (rest : List ℕ). begun ++ rest) (append_assoc front (b ∷ after) more) ∙ sym (append_assoc begun front (b ∷ (after ++ more))))
    ∙ slice_split_at (λ x. nat_eq x 10) (begun ++ front) b (after ++ more) (All-append (λ x. nat_eq x 10 ≡ false) begun front unbroken front_unbroken) is

-- at the end of the script the begun line is its last
last_cut : (begun : List ℕ) → NoBreak begun → script_lines (begun ++ []) ≡ begun ∷ []
last_cut begun unbroken = rw append-nil (slice_split_none _ begun unbroken)

-- whether a line is good, by the layers of the mount
good_on : {F G : Type 0} {asks : Callback F} {rule : Rule G} (m : Stage F G asks rule) (layers : Layering) (r : Roster) (line : List ℕ) (b : Bool) → layers_in m.core ≡ layers → is_good (layers_in m.core) r line ≡ b → is_good layers r line ≡ b
good_on m layers r line b same good = subst (λ (l : Layering). is_good l r line ≡ b) same good

-- one more line was played
more_played : (layers : Layering) (lines : List (List ℕ)) (line : List ℕ) (r s t : Roster) → ArePlayed layers r lines s → is_good layers s line ≡ true → LineLeaves s line t → ArePlayed layers r (lines ++ line ∷ []) t
more_played layers [] line r s t p good leaves = rw (← p) (good, (t, (leaves, refl)))
more_played layers (first ∷ lines) line r s t p good leaves = (p.0, (p.1.0, (p.1.1.0, more_played layers lines line p.1.0 s t p.1.1.1 good leaves)))

-- the line that ends at a line break was played
pub line_played : {F G : Type 0} {asks : Callback F} {rule : Rule G} (text front after begun : List ℕ) (count : ℕ) (m n : Stage F G asks rule) → AtBreak text front after → PlaysLine m (begun ++ front) n → GoesOn text begun count m after [] (count + 1) n
line_played text front after begun count m n at plays layers script more p =
    let went = plays.leaves p.roster p.stands in record {
      ended = p.ended ++ (begun ++ front) ∷ [];
      lines =
          p.lines
          ∙ ap (λ (t : List ℕ). p.ended ++ script_lines (begun ++ (t ++ more))) at.cut
          ∙ ap (λ (ls : List (List ℕ)). p.ended ++ ls) (line_cut begun front after more at.break p.unbroken at.front_unbroken at.is_break)
          ∙ sym (append_assoc p.ended ((begun ++ front) ∷ []) (script_lines (after ++ more)));
      counted = length-append p.ended ((begun ++ front) ∷ []) ∙ ap (λ n. n + 1) p.counted;
      roster = went.0;
      played = more_played layers p.ended (begun ++ front) nobody p.roster went.0 p.played (good_on m layers p.roster (begun ++ front) true p.layered (plays.good p.roster p.stands)) went.1.0;
      stands = went.1.1;
      layered = plays.layers ∙ p.layered;
      unbroken = All-nil _;
    }

-- the line that ends at a line break is bad
pub line_bad : {F G : Type 0} {asks : Callback F} {rule : Rule G} (text front after begun : List ℕ) (count : ℕ) (m : Stage F G asks rule) → AtBreak text front after → IsBadOn m (begun ++ front) → (layers : Layering) (script more : List ℕ) → IsPlayed layers script (text ++ more) begun count m → IsBadLine layers script (count + 1)
line_bad text front after begun count m at bad layers script more p = record {
  before = p.ended;
  line = begun ++ front;
  after = script_lines (after ++ more);
  lines =
      p.lines
      ∙ ap (λ (t : List ℕ). p.ended ++ script_lines (begun ++ (t ++ more))) at.cut
      ∙ ap (λ (ls : List (List ℕ)). p.ended ++ ls) (line_cut begun front after more at.break p.unbroken at.front_unbroken at.is_break);
  count = ap (λ n. n + 1) (sym p.counted);
  roster = p.roster;
  played = p.played;
  bad = good_on m layers p.roster (begun ++ front) false p.layered (bad p.roster p.stands);
}

-- the play ends by the fault of a line
pub line_fault : {F G : Type 0} {asks : Callback F} {rule : Rule G} (text front after begun : List ℕ) (count : ℕ) (m : Stage F G asks rule) (fault : PlayFault) → AtBreak text front after → IsLineFault m (begun ++ front) (count + 1) fault → EndsBy text begun count m fault
line_fault text front after begun count m (Device f) at h = λ layers script more p. tt
line_fault text front after begun count m (BadLine told) at h = λ layers script more p. rw h.0 (line_bad text front after begun count m at h.1 layers script more p)

-- a text without a line break goes on with the begun line
pub line_begun : {F G : Type 0} {asks : Callback F} {rule : Rule G} (text begun : List ℕ) (count : ℕ) (m : Stage F G asks rule) → NoBreak text → GoesOn text begun count m [] (begun ++ text) count m
line_begun text begun count m unbroken layers script more p = record {
  ended = p.ended;
  lines = p.lines ∙ ap (λ (t : List ℕ). p.ended ++ script_lines t) (sym (append_assoc begun text more));
  counted = p.counted;
  roster = p.roster;
  played = p.played;
  stands = p.stands;
  layered = p.layered;
  unbroken = All-append (λ x. nat_eq x 10 ≡ false) begun text p.unbroken unbroken;
}

-- one more line of a text was played
pub next_line : {F G : Type 0} {asks : Callback F} {rule : Rule G} (from begun_from text begun line after begun_then : List ℕ) (count_from count count_then place : ℕ) (m_from m n : Stage F G asks rule) → GoesOn from begun_from count_from m_from text begun count m → Some place ≡ position (λ b. nat_eq b 10) text → line ≡ begun ++ take place text → PlaysLine m line n → after ≡ drop (place + 1) text → begun_then ≡ [] → count_then ≡ count + 1 → GoesOn from begun_from count_from m_from after begun_then count_then n
next_line from begun_from text begun line after begun_then count_from count count_then place m_from m n so_far found is plays rest none next layers script more p =
    rw (rest, none, next) (line_played text (take place text) (drop (place + 1) text) begun count m n (at_break text place found) (rw is at plays) layers script more (so_far layers script more p))

-- a line of a text ended the play
pub last_line : {F G : Type 0} {asks : Callback F} {rule : Rule G} (from begun_from text begun line : List ℕ) (count_from count place : ℕ) (m_from m : Stage F G asks rule) (fault : PlayFault) → GoesOn from begun_from count_from m_from text begun count m → Some place ≡ position (λ b. nat_eq b 10) text → line ≡ begun ++ take place text → IsLineFault m line (count + 1) fault → EndsBy from begun_from count_from m_from fault
last_line from begun_from text begun line count_from count place m_from m fault so_far found is ends layers script more p =
    line_fault text (take place text) (drop (place + 1) text) begun count m fault (at_break text place found) (rw is at ends) layers script more (so_far layers script more p)

-- what follows the last line break of a text is begun
pub rest_begun : {F G : Type 0} {asks : Callback F} {rule : Rule G} (from begun_from text begun begun_then : List ℕ) (count_from count : ℕ) (m_from m : Stage F G asks rule) → GoesOn from begun_from count_from m_from text begun count m → None ≡ position (λ b. nat_eq b 10) text → begun_then ≡ begun ++ text → GoesOn from begun_from count_from m_from [] begun_then count m
rest_begun from begun_from text begun begun_then count_from count m_from m so_far none is layers script more p =
    rw is (line_begun text begun count m (no_break text none) layers script more (so_far layers script more p))

-- of a script that is known, what was read is played as far as its lines have ended
abbrev pub Plays : {F G : Type 0} {asks : Callback F} {rule : Rule G} → Layering → Option (List ℕ) → Option (List ℕ) → List ℕ → ℕ → Stage F G asks rule → Type 0
Plays layers None left begun count m = Unit {0}
Plays layers (Some script) None begun count m = ⊥
Plays layers (Some script) (Some left) begun count m = IsPlayed layers script left begun count m

-- at the beginning nothing was read
pub plays_none : {F G : Type 0} {asks : Callback F} {rule : Rule G} (script : Option (List ℕ)) (begun : List ℕ) (count : ℕ) (m : Stage F G asks rule) → begun ≡ [] → count ≡ 0 → IsRosterOf m nobody → Plays (layers_in m.core) script script begun count m
plays_none None begun count m none zero begins = tt
plays_none (Some script) begun count m none zero begins = record {
  ended = [];
  lines = ap (λ (b : List ℕ). script_lines (b ++ script)) (sym none);
  counted = sym zero;
  roster = nobody;
  played = refl;
  stands = begins;
  layered = refl;
  unbroken = rw none (All-nil _);
}

module _ (layers : Layering) where
  -- a read that fails leaves all as it was
  plays_kept : {F G : Type 0} {asks : Callback F} {rule : Rule G} (script before after : Option (List ℕ)) (begun : List ℕ) (count : ℕ) (m : Stage F G asks rule) → Keeps before after → Plays layers script before begun count m → Plays layers script after begun count m
  plays_kept None before after begun count m kept p = tt
  plays_kept (Some script) None after begun count m kept p = absurd p
  plays_kept (Some script) (Some left) None begun count m kept p = absurd kept
  plays_kept (Some script) (Some left) (Some right) begun count m kept p = rw kept p

  -- a piece that was read is played
  plays_on : {F G : Type 0} {asks : Callback F} {rule : Rule G} (script before after : Option (List ℕ)) (piece begun begun_then : List ℕ) (count count_then : ℕ) (m n : Stage F G asks rule) → Consumes before after piece → GoesOn piece begun count m [] begun_then count_then n → Plays layers script before begun count m → Plays layers script after begun_then count_then n
  plays_on None before after piece begun begun_then count count_then m n read on p = tt
  plays_on (Some script) None after piece begun begun_then count count_then m n read on p = absurd p
  plays_on (Some script) (Some left) None piece begun begun_then count count_then m n read on p = absurd read
  plays_on (Some script) (Some left) (Some right) piece begun begun_then count count_then m n read on p = on layers script right (rw read at p)

  -- a piece that was read ends the play
  plays_until : {F G : Type 0} {asks : Callback F} {rule : Rule G} (script before after : Option (List ℕ)) (piece begun : List ℕ) (count : ℕ) (m : Stage F G asks rule) (fault : PlayFault) → Consumes before after piece → EndsBy piece begun count m fault → Plays layers script before begun count m → IfSome script (λ s. IsPlayFault layers s fault)
  plays_until None before after piece begun count m fault read ends p = tt
  plays_until (Some script) None after piece begun count m fault read ends p = absurd p
  plays_until (Some script) (Some left) None piece begun count m fault read ends p = absurd read
  plays_until (Some script) (Some left) (Some right) piece begun count m fault read ends p = ends layers script right (rw read at p)

  -- nothing is left after a read that gives no byte
  plays_at_end : {F G : Type 0} {asks : Callback F} {rule : Rule G} (script before after : Option (List ℕ)) (begun : List ℕ) (count : ℕ) (m : Stage F G asks rule) → Consumes before after [] → IsAtEnd after → Plays layers script before begun count m → Plays layers script (Some []) begun count m
  plays_at_end None before after begun count m read at_end p = tt
  plays_at_end (Some script) None after begun count m read at_end p = absurd p
  plays_at_end (Some script) (Some left) None begun count m read at_end p = absurd read
  plays_at_end (Some script) (Some left) (Some right) begun count m read at_end p = rw (read, at_end) at p

  -- the whole script was played
  pub plays_whole : {F G : Type 0} {asks : Callback F} {rule : Rule G} (script : Option (List ℕ)) (begun : List ℕ) (count : ℕ) (m n : Stage F G asks rule) → PlaysLine m begun n → Plays layers script (Some []) begun count m → IfSome script (IsGoodScript layers)
  plays_whole None begun count m n plays p = tt
  plays_whole (Some script) begun count m n plays p =
      let went = plays.leaves p.roster p.stands in
      let lines : script_lines script ≡ p.ended ++ begun ∷ [] = p.lines ∙ ap (λ (ls : List (List ℕ)). p.ended ++ ls) (last_cut begun p.unbroken) in
      (went.0, rw lines (more_played layers p.ended begun nobody p.roster went.0 p.played (good_on m layers p.roster begun true p.layered (plays.good p.roster p.stands)) went.1.0))

  -- the last line ended the play
  pub plays_until_end : {F G : Type 0} {asks : Callback F} {rule : Rule G} (script : Option (List ℕ)) (begun : List ℕ) (count : ℕ) (m : Stage F G asks rule) (fault : PlayFault) → IsLineFault m begun (count + 1) fault → Plays layers script (Some []) begun count m → IfSome script (λ s. IsPlayFault layers s fault)
  plays_until_end None begun count m fault h p = tt
  plays_until_end (Some script) begun count m (Device f) h p = tt
  plays_until_end (Some script) begun count m (BadLine told) h p = record {
    before = p.ended;
    line = begun;
    after = [];
    lines = p.lines ∙ ap (λ (ls : List (List ℕ)). p.ended ++ ls) (last_cut begun p.unbroken);
    count = h.0 ∙ ap (λ n. n + 1) (sym p.counted);
    roster = p.roster;
    played = p.played;
    bad = good_on m layers p.roster begun false p.layered (h.1 p.roster p.stands);
  }

  -- a device that fails ends the play of any script
  pub device_ends : (script : Option (List ℕ)) (fault : DeviceFault) → IfSome script (λ s. IsPlayFault layers s (Device fault))
  device_ends None fault = tt
  device_ends (Some script) fault = tt

  -- what was read is played
  pub read_on : {F G : Type 0} {asks : Callback F} {rule : Rule G} (script before after : Option (List ℕ)) (piece fed begun begun_then : List ℕ) (read count count_then : ℕ) (m n : Stage F G asks rule) → Reads before after read piece → fed ≡ take read piece → GoesOn fed begun count m [] begun_then count_then n → Plays layers script before begun count m → Plays layers script after begun_then count_then n
  read_on script before after piece fed begun begun_then read count count_then m n reads is on p = plays_on script before after fed begun begun_then count count_then m n (rw is reads.1) on p

  -- what was read ends the play
  pub read_until : {F G : Type 0} {asks : Callback F} {rule : Rule G} (script before after : Option (List ℕ)) (piece fed begun : List ℕ) (read count : ℕ) (m : Stage F G asks rule) (fault : PlayFault) → Reads before after read piece → fed ≡ take read piece → EndsBy fed begun count m fault → Plays layers script before begun count m → IfSome script (λ s. IsPlayFault layers s fault)
  read_until script before after piece fed begun read count m fault reads is ends p = plays_until script before after fed begun count m fault (rw is reads.1) ends p

  -- a read that gives no byte leaves nothing
  pub read_end : {F G : Type 0} {asks : Callback F} {rule : Rule G} (script before after : Option (List ℕ)) (piece begun : List ℕ) (read count : ℕ) (m : Stage F G asks rule) → Reads before after read piece → read ≡ 0 → Plays layers script before begun count m → Plays layers script (Some []) begun count m
  read_end script before after piece begun read count m reads none p =
      plays_at_end script before after begun count m (rw none at reads.1) (reads.2 none) p

  -- a read that was interrupted leaves all as it was
  pub read_kept : {F G : Type 0} {asks : Callback F} {rule : Rule G} (read : Option ℕ) (script before after : Option (List ℕ)) (piece begun : List ℕ) (count : ℕ) (m : Stage F G asks rule) → MatchOption read (Keeps before after) (λ n. Reads before after n piece) → ((n : ℕ) → read ≡ Some n → ⊥) → Plays layers script before begun count m → Plays layers script after begun count m
  read_kept None script before after piece begun count m kept never p = plays_kept script before after begun count m kept p
  read_kept (Some n) script before after piece begun count m kept never p = absurd (never n refl)

-- ---- how often devices failed

-- an input that fails
pub input_stream : (failed output reads most : ℕ) (fault : DeviceFault) → IsInputFault failed reads most fault → IsStreamFault failed reads most output (Device fault)
input_stream failed output reads most fault = elim fault as (λ x. IsInputFault failed reads most x → IsStreamFault failed reads most output (Device x)) [
  | Stream ↦ λ h. elim h [ inl e ↦ inl e | inr e ↦ inr (inl e) ]
  | Memory ↦ λ h. tt
]

-- an output that fails
device_stream : (failed output reads most : ℕ) (fault : DeviceFault) → IsToldBy output fault → IsStreamFault failed reads most output (Device fault)
device_stream failed output reads most fault = elim fault as (λ x. IsToldBy output x → IsStreamFault failed reads most output (Device x)) [ Stream ↦ λ h. inr (inr h) | Memory ↦ λ h. tt ]

pub output_stream : {T : Type 0} (failed before after reads most : ℕ) (r : Result T PlayFault) → TellsPlay before after r → IfErr r (IsStreamFault failed reads most after)
output_stream failed before after reads most (Ok x) h = tt
output_stream failed before after reads most (Err (BadLine n)) h = tt
output_stream failed before after reads most (Err (Device f)) h = device_stream failed after reads most f h

pub error_stream : (T : Type 0) (failed before after reads most : ℕ) (fault : PlayFault) → TellsPlay {T = T} before after (Err fault) → IsStreamFault failed reads most after fault
error_stream T failed before after reads most (BadLine n) h = tt
error_stream T failed before after reads most (Device f) h = device_stream failed after reads most f h

-- an output that fails as it hands on
pub mark_stream : (failed before after reads most : ℕ) (fault : DeviceFault) → Notes before after fault → IsStreamFault failed reads most after (Device fault)
mark_stream failed before after reads most fault = elim fault as (λ x. Notes before after x → IsStreamFault failed reads most after (Device x)) [ Stream ↦ λ h. inr (inr h) | Memory ↦ λ h. tt ]

-- an output that goes well
pub output_well : {T : Type 0} (first before after : ℕ) (P : Type 0) (r : Result T PlayFault) → P → before ≡ first → TellsPlay before after r → OnOk r (P × (after ≡ first))
output_well first before after P (Ok x) p same h = (p, h ∙ same)
output_well first before after P (Err (BadLine n)) p same h = tt
output_well first before after P (Err (Device f)) p same h = tt
