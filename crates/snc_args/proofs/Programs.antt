-- What the two programs' commands are, and what they read.
use Rattle.std.proofs.Common.{◌≡◌, ◌∙◌, ◌<◌, ap, Bool, true, false, length, is_some, Option, Some, None, refl, sym, subst, arith, codes}
use Rattle.std.specs.Prelude.{pos, ◌||◌}
use Rattle.std.specs.Option.{option_map_or}
use Rattle.std.specs.Str.{bytes_eq}
use Rattle.std.proofs.lemmas.List.{length-map}
use Rattle.std.proofs.lemmas.Slice.Eq.{bytes_eq-Decides}
use Rattle.clap.specs.Words.{App, Text, IsParsedFrom, IsSignedIn, app_of, args_of, first_value, found_of, is_simple_and_free, one_text, rule_of, without_minus}
use Rattle.clap.specs.declared.builder.arg.Arg.{Arg}
use Rattle.clap.specs.declared.builder.command.Command.{Command}
use Rattle.clap.specs.declared.builder.value_parser.ValueParser.TheVariants as vp
use Rattle.clap.specs.declared.parser.matches.ArgMatches.{ArgMatches}
use Rattle.snc_args.specs.Commands.{budget_rule, file_rule, snc_app, snlrun_app, tables_rule}
use Rattle.snc_args.proofs.Arguments.{first_in, argument_from, open_from}
use Rattle.snc_args.proofs.Parses.{default_value, has_value, required_value, text_read}

-- Of both commands `clap` says what they read, and how they fail.
pub snc_is_free : is_simple_and_free snc_app ≡ true
snc_is_free = refl

pub snlrun_is_free : is_simple_and_free snlrun_app ≡ true
snlrun_is_free = refl

-- Any argument of a command.
some_arg : (c : Command) (a : App) → app_of c ≡ a → 0 < length a.top.rules → Arg
some_arg c a is lt =
    let lengths : length (args_of c) ≡ length a.top.rules = sym (length-map (args_of c) rule_of) ∙ ap (λ (b : App). length b.top.rules) is in
    first_in (args_of c) (omega arith)

snc_rules : length snc_app.top.rules ≡ 3
snc_rules = refl

snlrun_rules : length snlrun_app.top.rules ≡ 4
snlrun_rules = refl

-- `snc` has FILE.
pub snc_file : (c : Command) (m : ArgMatches) → app_of c ≡ snc_app → IsParsedFrom c m → is_some (first_value (found_of m) (codes "FILE")) ≡ true
snc_file c m is p =
    let n = snc_rules in
    let d = some_arg c snc_app is (omega arith) in
    required_value c m p (open_from c snc_app is refl) 0 d file_rule (argument_from c snc_app 0 d file_rule is (omega arith) refl refl) refl refl refl

-- `snlrun` has FILE.
pub snlrun_file : (c : Command) (m : ArgMatches) → app_of c ≡ snlrun_app → IsParsedFrom c m
    → is_some (first_value (found_of m) (codes "FILE")) ≡ true
snlrun_file c m is p =
    let n = snlrun_rules in
    let d = some_arg c snlrun_app is (omega arith) in
    required_value c m p (open_from c snlrun_app is refl) 0 d file_rule (argument_from c snlrun_app 0 d file_rule is (omega arith) refl refl) refl refl refl

-- `snlrun` has a budget, whose text is a number in its range.
pub snlrun_budget : (c : Command) (m : ArgMatches) → app_of c ≡ snlrun_app → IsParsedFrom c m
    → (t : Text) × (one_text (found_of m) (codes "budget") ≡ Some (without_minus t)) × IsSignedIn (pos 1) (pos 1000000000) t
snlrun_budget c m is p =
    let n = snlrun_rules in
    let d = some_arg c snlrun_app is (omega arith) in
    let free = open_from c snlrun_app is refl in
    let argument = argument_from c snlrun_app 2 d budget_rule is (omega arith) refl refl in
    let has = default_value c m p free 2 d budget_rule argument (omega arith) refl refl in
    text_read c m p free 2 d budget_rule argument (vp.Signed (pos 1) (pos 1000000000)) refl has

-- The text of `--tables` is "true" or "false".
pub snc_tables : (c : Command) (m : ArgMatches) → app_of c ≡ snc_app → IsParsedFrom c m → (t : Text) → one_text (found_of m) (codes "tables") ≡ Some t
    → (bytes_eq t (codes "true") || bytes_eq t (codes "false")) ≡ true
snc_tables c m is p t text =
    let n = snc_rules in
    let d = some_arg c snc_app is (omega arith) in
    let got = text_read c m p (open_from c snc_app is refl) 1 d tables_rule (argument_from c snc_app 1 d tables_rule is (omega arith) refl refl)
    vp.Bool refl (has_value (found_of m) (codes "tables") t text) in
    let same : Some got.0 ≡ Some t = sym got.1 ∙ text in
    let is_t : got.0 ≡ t = cc in
    subst (λ (w : Text). (bytes_eq w (codes "true") || bytes_eq w (codes "false")) ≡ true) is_t got.2

-- What the getter of a flag says, by its text.
pub flag_read : (o : Option Text) (b : Bool) → ((o ≡ None) → b ≡ false) → ((o ≡ Some (codes "true")) → b ≡ true)
    → ((o ≡ Some (codes "false")) → b ≡ false) → ((t : Text) → o ≡ Some t → (bytes_eq t (codes "true") || bytes_eq t (codes "false")) ≡ true)
    → b ≡ option_map_or (bytes_eq (codes "true")) o false
flag_read None b none when_true other texts = none refl
flag_read (Some t) b none when_true other texts = go (bytes_eq t (codes "true")) refl (texts t refl)
  where
    go : (is : Bool) → bytes_eq t (codes "true") ≡ is → (bytes_eq t (codes "true") || bytes_eq t (codes "false")) ≡ true
        → b ≡ bytes_eq (codes "true") t
    go true e h =
        let same : t ≡ codes "true" = (bytes_eq-Decides t (codes "true")).0 e in
        when_true (ap (λ (w : Text). Some w) same) ∙ sym (ap (bytes_eq (codes "true")) same)
    go false e h =
        let is_false : bytes_eq t (codes "false") ≡ true = rw e at h in
        let same : t ≡ codes "false" = (bytes_eq-Decides t (codes "false")).0 is_false in
        other (ap (λ (w : Text). Some w) same) ∙ sym (ap (bytes_eq (codes "true")) same)
