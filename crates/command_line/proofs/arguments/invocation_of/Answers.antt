use Rattle.std.proofs.Common.{◌≡◌, ◌∙◌, ℕ, List, Option, Some, None, Bool, true, codes, refl, sym, ap, option_map}
use Rattle.std.specs.Str.{bytes_eq}
use Rattle.std.proofs.lemmas.Slice.Eq.{bytes_eq-Decides}
use Rattle.clap.specs.Matches.{found_of, subcommand_name_of}
use Rattle.clap.specs.Simple.{subcommand_rows_of}
use Rattle.clap.specs.Walk.{Row, rows_of}
use Rattle.clap.specs.declared.parser.matches.ArgMatches.{ArgMatches}
use Rattle.clap.specs.declared.parser.matches.ArgMatches.TheViews.{out-ArgMatches}
use Rattle.command_line.proofs.arguments.invocation_of.Goals as goal

-- texts that compare equal are the same
same_text : (a b : List ℕ) (told : Bool) → told ≡ bytes_eq a b → told ≡ true → a ≡ b
same_text a b told is holds = (bytes_eq-Decides a b).0 (sym is ∙ holds)

-- two halves
abbrev halves : {A B X : Type 0} → (X → A) → (X → B) → X → A × B
halves f g x = (f x, g x)

-- two halves of what is there
pair : {A B X : Type 0} (f : X → A) (g : X → B) (o : Option X) (a : A) (b : B) → option_map f o ≡ Some a → option_map (λ (p : A × B). p.1) (option_map (halves f g) o) ≡ Some b → option_map (halves f g) o ≡ Some (a, b)
pair f g None a b p q = cc
pair f g (Some x) a b p q = let e : f x ≡ a = cc in let h : g x ≡ b = cc in rw (e, h) refl

-- the subcommand of a parse by its name and its rows
subcommand_is : (m : ArgMatches) (n : List ℕ) (rows : List Row) → subcommand_name_of m ≡ Some n → option_map (λ p. p.1) (subcommand_rows_of m) ≡ Some rows → subcommand_rows_of m ≡ Some (n, rows)
subcommand_is m n rows p q = pair _ _ (out-ArgMatches m).subcommand n rows p q

pub returns-then-eq : goal.returns-then-eq
returns-then-eq c = record {
  rows = rows_of (found_of c.in_ok-name.inner.now);
  subcommand = subcommand_is c.args.matches.now (codes "show") (rows_of (found_of c.in_ok-name.inner.now))
      (sym c.in_ok-name.ensures.name ∙ ap (λ (n : List ℕ). Some n) (same_text c.in_ok-name.name.now (codes "show") c.eq.result c.eq.ensures c.if-eq.true)) (sym c.in_ok-name.ensures.rows);
  source = c.in_ok-source.ensures;
  more = tt;
}

pub returns-then-eq-2 : goal.returns-then-eq-2
returns-then-eq-2 c = record {
  rows = rows_of (found_of c.in_ok-name.inner.now);
  subcommand = subcommand_is c.args.matches.now (codes "play") (rows_of (found_of c.in_ok-name.inner.now))
      (sym c.in_ok-name.ensures.name ∙ ap (λ (n : List ℕ). Some n) (same_text c.in_ok-name.name.now (codes "play") c.eq-else-eq.result c.eq-else-eq.ensures c.if-eq-2.true)) (sym c.in_ok-name.ensures.rows);
  source = rw c.playing_of-playing.ensures.source c.in_ok-source.ensures;
  more = c.playing_of-playing.ensures.asks;
}

pub returns-in_ok-serving : goal.returns-in_ok-serving
returns-in_ok-serving c =
    let named = same_text c.in_ok-name.name.now (codes "serve") c.eq-else-eq-2.result
    c.eq-else-eq-2.ensures c.if-eq-3.true in record {
      rows = rows_of (found_of c.in_ok-name.inner.now);
      subcommand = subcommand_is c.args.matches.now (codes "serve") (rows_of (found_of c.in_ok-name.inner.now))
          (sym c.in_ok-name.ensures.name ∙ ap (λ (n : List ℕ). Some n) named) (sym c.in_ok-name.ensures.rows);
      source = rw c.in_ok-serving.ensures.source c.in_ok-source.ensures;
      more = c.in_ok-serving.ensures.asks;
    }
