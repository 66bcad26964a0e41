use Rattle.std.proofs.Common.{◌≡◌, ◌∙◌, List, [], ◌∷◌, ℕ, true, false, codes, refl, sym, ap, map, subst}
use Rattle.std.proofs.Common.{◌⊎◌, inl, inr}
use Rattle.std.proofs.lemmas.Bool.{cases_Bool}
use Rattle.std.proofs.lemmas.Result.{err_from_is_err_and}
use Rattle.clap.specs.Faults.{built_fault, fault_of, is_simple_and_free}
use Rattle.clap.specs.Kinds.{HasKind, Kinds}
use Rattle.clap.specs.Simple.{App, HasMatchesOf, app_of, built, is_simple, subcommand_of}
use Rattle.clap.specs.Takes.{takes}
use Rattle.clap.specs.Values.{kind_of}
use Rattle.clap.specs.Walk.{nothing_held}
use Rattle.clap.specs.declared.error.Error.{Error}
use Rattle.clap.specs.declared.error.kind.ErrorKind.{ErrorKind}
use Rattle.clap.specs.declared.error.kind.ErrorKind.TheVariants as kind
use Rattle.clap.proofs.OnLiterals.{clap_on_literals}
use Rattle.clap.specs.declared.parser.matches.ArgMatches.{ArgMatches}
use Rattle.command_line.specs.Arguments.{IsAskedBy, IsLoneWord, IsRefusedBy, Names, overlayd_app}
use Rattle.command_line.specs.declared.arguments.Invocation.{Invocation}
use Rattle.command_line.proofs.arguments.command_line.Goals as goal

-- the program's command line is one of those of which clap's clauses speak
simple_and_free : is_simple_and_free overlayd_app ≡ true
unfolding clap_on_literals
simple_and_free = refl

-- so is what a parse of it has
simple : is_simple overlayd_app ≡ true
unfolding clap_on_literals
simple = refl

-- what a parse of the words names is what they ask for
named : (app : App) (words : List (List ℕ)) (m : ArgMatches) (asked : Invocation) → app ≡ overlayd_app
    → HasMatchesOf app words m → Names m asked → IsAskedBy words asked
named app words m asked is has names =
    let parsed = (has (ap is_simple is ∙ simple)).1 in record {
      rows = names.rows;
      subcommand = ap (λ (a : App). subcommand_of a words) (sym is) ∙ sym parsed ∙ names.subcommand;
      source = names.source;
      more = names.more;
    }

-- an error has the kinds of the program's own commands
of_kinds : (app : App) (words : List (List ℕ)) (e : Error) → app ≡ overlayd_app
    → (is_simple_and_free app ≡ true → HasKind (fault_of app words) e)
    → HasKind (fault_of overlayd_app words) e
of_kinds app words e is fails =
    let same : fault_of app words ≡ fault_of overlayd_app words = ap (λ (a : App). fault_of a words) is in
    subst (λ (kinds : Kinds). HasKind kinds e) same (fails (ap is_simple_and_free is ∙ simple_and_free))

-- words that would be taken are refused for memory alone
refused : (app : App) (words : List (List ℕ)) (e : Error) → app ≡ overlayd_app
    → (takes app words ≡ true → kind_of e ≡ kind.OutOfMemory) → IsRefusedBy words e
refused app words e is passes = by (cases_Bool (takes overlayd_app words))
  where
    by : (takes overlayd_app words ≡ true) ⊎ (takes overlayd_app words ≡ false)
        → IsRefusedBy words e
    by (inl t) = inr (passes (ap (λ (a : App). takes a words) is ∙ t))
    by (inr f) = inl f

-- the one word `--version` asks for the version
version_asked : (words : List (List ℕ)) → IsLoneWord (codes "--version") words
    → fault_of overlayd_app words ≡ kind.DisplayVersion ∷ []
unfolding clap_on_literals
version_asked words lone =
    ap (λ (rest : List (List ℕ)). built_fault (built overlayd_app) nothing_held rest) lone

-- the one word `--help` asks for help
help_asked : (words : List (List ℕ)) → IsLoneWord (codes "--help") words
    → fault_of overlayd_app words ≡ kind.DisplayHelp ∷ []
unfolding clap_on_literals
help_asked words lone =
    ap (λ (rest : List (List ℕ)). built_fault (built overlayd_app) nothing_held rest) lone

-- an error of words that ask for a text alone has that kind, or memory ran out
has_asked : (app : App) (words : List (List ℕ)) (k : ErrorKind) (e : Error) → app ≡ overlayd_app
    → fault_of overlayd_app words ≡ k ∷ []
    → (is_simple_and_free app ≡ true → HasKind (fault_of app words) e) → HasKind (k ∷ []) e
has_asked app words k e is asks fails =
    let comes : fault_of app words ≡ k ∷ [] = ap (λ (a : App). fault_of a words) is ∙ asks in
    subst (λ (kinds : Kinds). HasKind kinds e) comes
    (fails (ap is_simple_and_free is ∙ simple_and_free))

-- words that ask for a text alone are no command
not_taken : (app : App) (words : List (List ℕ)) (k : ErrorKind) → app ≡ overlayd_app
    → fault_of overlayd_app words ≡ k ∷ []
    → (is_simple_and_free app ≡ true → fault_of app words ≡ []) → k ∷ [] ≡ []
not_taken app words k is asks taken =
    sym asks ∙ ap (λ (a : App). fault_of a words) (sym is)
    ∙ taken (ap is_simple_and_free is ∙ simple_and_free)

pub returns-in_err-matches-clause-err : goal.returns-in_err-matches-clause-err
returns-in_err-matches-clause-err g c =
    let p = err_from_is_err_and c.from_residual-in_err-matches.result
    c.from_residual-in_err-matches.ensures.1 in
    rw (p.1, p.2) (refused (app_of c.in_ok-command.command) (map g.S.AsStr.text c.args.words.now)
    c.in_err-matches.field-0.0 c.in_ok-command.ensures c.in_err-matches.ensures.passes)

pub returns-in_err-matches-clause-kinds : goal.returns-in_err-matches-clause-kinds
returns-in_err-matches-clause-kinds g c =
    let p = err_from_is_err_and c.from_residual-in_err-matches.result
    c.from_residual-in_err-matches.ensures.1 in
    rw (p.1, p.2) (of_kinds (app_of c.in_ok-command.command) (map g.S.AsStr.text c.args.words.now)
    c.in_err-matches.field-0.0 c.in_ok-command.ensures c.in_err-matches.ensures.kinds)

pub returns-in-Some-clause-ok : goal.returns-in-Some-clause-ok
returns-in-Some-clause-ok g c =
    named (app_of c.in_ok-command.command) (map g.S.AsStr.text c.args.words.now)
    c.in_ok-matches.matches c.in-Some.invocation c.in_ok-command.ensures c.in_ok-matches.ensures.matches
    c.in-Some.ensures

pub returns-in-Some-clause-kinds : goal.returns-in-Some-clause-kinds
returns-in-Some-clause-kinds g c =
    let is = c.in_ok-command.ensures in
    ap (λ (a : App). fault_of a (map g.S.AsStr.text c.args.words.now)) (sym is)
    ∙ c.in_ok-matches.ensures.kinds (ap is_simple_and_free is ∙ simple_and_free)

pub returns-in_err-matches-clause-version : goal.returns-in_err-matches-clause-version
returns-in_err-matches-clause-version g c lone =
    let words = map g.S.AsStr.text c.args.words.now in
    let p = err_from_is_err_and c.from_residual-in_err-matches.result
    c.from_residual-in_err-matches.ensures.1 in
    rw (p.1, p.2) (has_asked (app_of c.in_ok-command.command) words kind.DisplayVersion
    c.in_err-matches.field-0.0 c.in_ok-command.ensures (version_asked words lone)
    c.in_err-matches.ensures.kinds)

pub returns-in_err-matches-clause-help : goal.returns-in_err-matches-clause-help
returns-in_err-matches-clause-help g c lone =
    let words = map g.S.AsStr.text c.args.words.now in
    let p = err_from_is_err_and c.from_residual-in_err-matches.result
    c.from_residual-in_err-matches.ensures.1 in
    rw (p.1, p.2) (has_asked (app_of c.in_ok-command.command) words kind.DisplayHelp
    c.in_err-matches.field-0.0 c.in_ok-command.ensures (help_asked words lone)
    c.in_err-matches.ensures.kinds)

pub returns-in-Some-clause-version : goal.returns-in-Some-clause-version
returns-in-Some-clause-version g c lone =
    let words = map g.S.AsStr.text c.args.words.now in
    not_taken (app_of c.in_ok-command.command) words kind.DisplayVersion c.in_ok-command.ensures
    (version_asked words lone) c.in_ok-matches.ensures.kinds

pub returns-in-Some-clause-help : goal.returns-in-Some-clause-help
returns-in-Some-clause-help g c lone =
    let words = map g.S.AsStr.text c.args.words.now in
    not_taken (app_of c.in_ok-command.command) words kind.DisplayHelp c.in_ok-command.ensures
    (help_asked words lone) c.in_ok-matches.ensures.kinds
