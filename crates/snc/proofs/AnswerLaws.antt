-- What the steps answer is what the source means.
use Rattle.std.proofs.Common.{◌≡◌, ◌<◌, ◌≤◌, ◌↔◌, inl, inr, ℕ, Bool, List, [], ◌∷◌, Option, None, Some, IsSome, IfSome, Box, Global, Contains, Result, Ok, Err, length, take, drop, slice_get, true, false, refl, sym, ap, subst, ◌∙◌, arith, zero, suc, lit≤}
use Rattle.std.specs.Option.{option_map}
use Rattle.std.proofs.lemmas.Bool.{false≢true}
use Rattle.std.proofs.lemmas.List.Elements.{Contains-push}
use Rattle.snl_text.specs.declared.faults.LexFault.{LexFault}
use Rattle.snl_text.specs.declared.tokens.Lexed.{Lexed}
use Rattle.snl_text.specs.declared.tokens.Pos.{Pos}
use Rattle.snl_text.specs.declared.tokens.Token.{Token}
use Rattle.snl_text.specs.declared.faults.LexFault.TheVariants.{SourceTooLong}
use Rattle.snl_text.specs.declared.faults.LexFault.TheVariants as faults
use Rattle.snl_text.specs.declared.faults.Flaw.{Flaw}
use Rattle.snl_text.specs.declared.faults.Flaw.TheVariants as flaw
use Rattle.snl_text.specs.declared.lexemes.Lexeme.{Lexeme}
use Rattle.snl_text.specs.Cut.{Cuts, Reading, nothing_read, start}
use Rattle.snl_text.specs.Faults.{fault_pos, fault_text}
use Rattle.snl_text.specs.Lexing.{FaultHolds, GivesOnly, IsLexed}
use Rattle.snl_text.proofs.Parts.{before_fault}
use Rattle.snl_messages.specs.declared.messages.Severity.TheVariants.{Error}
use Rattle.snl_syntax.specs.declared.programs.Program.{Program}
use Rattle.snl_syntax.specs.Begins.{Spells, IsUnexpected, IsTooDeep}
use Rattle.snl_syntax.specs.Programs.{ProgramTree, IsProgram, programs}
use Rattle.snl_syntax.specs.view.Programs.{first_place, program_view}
use Rattle.snl_names.specs.declared.options.Options.{Options}
use Rattle.snl_messages.specs.Messages.{Said, IsInOrder}
use Rattle.snl_messages.specs.Says.{IsSaid}
use Rattle.snl_messages.specs.Silence.{options_in_force}
use Rattle.snl_check.specs.declared.checked.Checked.{Checked}
use Rattle.snl_check.specs.Accepted.{IsAccepted}
use Rattle.snl_check.specs.Waits.{waits}
use Rattle.snl_machine.specs.Loading.{IsLoaded}
use Rattle.snl_machine.specs.declared.machine.Machine.{Machine}
use Rattle.snl_machine.specs.MachineOf.{Task, world_held}
use Rattle.snl_meaning.specs.World.{World}
use Rattle.snl_trace.specs.Run.{rules_by}
use Rattle.snl_trace.specs.RunOver.{RunsOn, standing}
use Rattle.snl_trace.specs.declared.runner.End.{End}
use Rattle.snc.specs.declared.jobs.Status.TheVariants.{Well, SourceErrors}
use Rattle.snl_channels.specs.Links.{links}
use Rattle.snc.specs.Answered.{IsAnswered, SaysIf}
use Rattle.snc.specs.Judging.{AreNamesBefore, ReadsNames, HasFault, HasTokens, IsJudged, IsSaidOf, IsTreeSaid, NoErrors, error_at, names_of, nesting_error, syntax_error}
use Rattle.snl_channels.specs.Tables.{tables}
use Rattle.snc.specs.Outcomes.{IsReport, IsRunOf, IsSession, at_first, status_of, tables_text}
use Rattle.snc.specs.Texts.{messages_text}
use Rattle.snc.specs.ReportSteps.{AreNamesOf, AreTablesOf, AreTokensTold, IsFaultTold, IsTreeTold, asked_tables}

-- an error alone
lone_error : (messages : List Said) (pos : Pos) (number : ℕ) (text : List ℕ) → messages ≡ error_at pos number text ∷ [] → NoErrors messages → ⊥
lone_error messages pos number text is none =
    none (error_at pos number text) (subst (λ l. Contains l (error_at pos number text)) (sym is) (Contains-push [] (error_at pos number text))) refl

-- the tree of a checked program
abbrev pub checked_tree : Option Checked → Option ProgramTree
checked_tree checked = option_map (λ c. program_view c.program) checked

-- the same of one in a box
abbrev pub tree_of : Option (Box Checked Global) → Option ProgramTree
tree_of checked = option_map (λ c. program_view c.value.program) checked

-- what is in a box
abbrev unboxed : Option (Box Checked Global) → Option Checked
unboxed checked = option_map (λ b. b.value) checked

-- a box changes no tree
unboxed_tree : (held : Option (Box Checked Global)) → checked_tree (unboxed held) ≡ tree_of held
unboxed_tree None = refl
unboxed_tree (Some b) = refl

-- two results that are one fault have one fault
same_err : (a b : LexFault) → ◌≡◌ {A = Result Lexed LexFault} (Err a) (Err b) → a ≡ b
same_err a b e = cc

-- tokens are no fault
ok_err : (a : Lexed) (b : LexFault) → ◌≡◌ {A = Result Lexed LexFault} (Ok a) (Err b) → ⊥
ok_err a b e = cc

-- what `lex` answers
pub has_fault : (source : List ℕ) (fault : LexFault) → FaultHolds source fault → (1048576 < length source → ◌≡◌ {A = Result Lexed LexFault} (Err fault) (Err (SourceTooLong start)))
    → HasFault source fault
has_fault source fault holds long = record { holds = holds; long = λ h. same_err fault (SourceTooLong start) (long h) }

-- a source that `lex` cuts is within the limit, and is the row of its tokens
pub has_tokens : (source : List ℕ) (lexed : Lexed) → IsLexed source lexed → (1048576 < length source → ◌≡◌ {A = Result Lexed LexFault} (Ok lexed) (Err (SourceTooLong start))) → HasTokens source lexed
has_tokens source lexed is long =
    let within : 1048576 < length source → ⊥ = λ h. ok_err lexed (SourceTooLong start) (long h) in
    record { within = omega (arith, within); is = is }

-- the names in a text that was cut
pub names_cut : (text : List ℕ) (lexed : Lexed) → IsLexed text lexed
    → ((lexemes : List Lexeme) (end : Reading) → length text ≤ 1048576 → Cuts nothing_read text lexemes end [] → GivesOnly end (Ok lexed)) → AreNamesOf text (names_of lexed)
names_cut text lexed w whole = record {
  cut = λ end within is. (whole is.lexemes end within is.cut).files;
  none = λ never. absurd (never w.end w.cut);
}

-- the text of the message about a fault
pub fault_told : (word source text front words told : List ℕ) (fault : LexFault) (pos : Pos) (names listed : List (List ℕ)) → fault_pos fault ≡ Some pos → fault_text fault ≡ Some words
    → front ≡ take pos.offset source → AreNamesOf front names → listed ≡ names → told ≡ words → text ≡ messages_text word listed (error_at pos 3 told ∷ []) → IsFaultTold word source fault text
fault_told word source text front words told fault pos names listed at says is given same_names same_words text_is = record {
  names = names;
  messages = error_at pos 3 words ∷ [];
  said = record { pos = pos; words = words; at = at; says = says; messages_are = refl };
  given = subst (λ l. AreNamesOf l names) is given;
  text_is = text_is ∙ (λ i. messages_text word (same_names i) (error_at pos 3 (same_words i) ∷ []));
}

-- so many of the first bytes are no more than all
take_within : (n : ℕ) (source : List ℕ) (most : ℕ) → length source ≤ most → length (take n source) ≤ most
take_within zero source most h = omega arith
take_within (suc n) [] most h = omega arith
take_within (suc n) (b ∷ bs) zero h = absurd (omega arith)
take_within (suc n) (b ∷ bs) (suc most) h = let k = take_within n bs most (omega arith) in omega arith

-- the names in the bytes before a fault are those that the longest cut reads
names_read : (source : List ℕ) (kind : Flaw) (pos : Pos) (names : List (List ℕ)) → length (take pos.offset source) ≤ 1048576 → AreNamesOf (take pos.offset source) names
    → ReadsNames source kind pos names
names_read source kind pos names within given w = given.cut w.end within (before_fault source kind pos w).0

-- nothing has no names
names_of_nothing : (source : List ℕ) (names : List (List ℕ)) → AreNamesOf (take 0 source) names → names ≡ []
names_of_nothing source names given = given.cut nothing_read (lit≤ tt) record { lexemes = []; cut = (refl, refl) }

-- places that are given as one are one
same_place : (p q : Pos) → ◌≡◌ {A = Option Pos} (Some p) (Some q) → p ≡ q
same_place p q e = cc

-- a source that is too long has its fault at the start
too_long : (p : Pos) → ◌≡◌ {A = LexFault} (SourceTooLong p) (SourceTooLong start) → p ≡ start
too_long p e = cc

-- a source with another fault than its length is within the limit, and so are its first bytes
front_within : (source : List ℕ) (fault : LexFault) (n : ℕ) → HasFault source fault → (fault ≡ SourceTooLong start → ⊥) → length (take n source) ≤ 1048576
front_within source fault n has other =
    let short : 1048576 < length source → ⊥ = λ h. other (has.long h) in
    take_within n source 1048576 (omega (arith, short))

-- the same of a source that is too long and of one that is not
names_before : (source : List ℕ) (fault : LexFault) (pos : Pos) (names : List (List ℕ)) → HasFault source fault → fault_pos fault ≡ Some pos → AreNamesOf (take pos.offset source) names
    → AreNamesBefore source fault names
names_before source (faults.BadByte p) pos names has at given = names_read source flaw.BadByte p names (front_within source (faults.BadByte p) p.offset has (λ e. cc))
    (subst (λ (q : Pos). AreNamesOf (take q.offset source) names) (sym (same_place p pos at)) given)
names_before source (faults.OpenComment p) pos names has at given = names_read source flaw.OpenComment p names (front_within source (faults.OpenComment p) p.offset has (λ e. cc))
    (subst (λ (q : Pos). AreNamesOf (take q.offset source) names) (sym (same_place p pos at)) given)
names_before source (faults.OpenString p) pos names has at given = names_read source flaw.OpenString p names (front_within source (faults.OpenString p) p.offset has (λ e. cc))
    (subst (λ (q : Pos). AreNamesOf (take q.offset source) names) (sym (same_place p pos at)) given)
names_before source (faults.BadNumber p) pos names has at given = names_read source flaw.BadNumber p names (front_within source (faults.BadNumber p) p.offset has (λ e. cc))
    (subst (λ (q : Pos). AreNamesOf (take q.offset source) names) (sym (same_place p pos at)) given)
names_before source (faults.OpenEmbeddedC p) pos names has at given = names_read source flaw.OpenEmbeddedC p names (front_within source (faults.OpenEmbeddedC p) p.offset has (λ e. cc))
    (subst (λ (q : Pos). AreNamesOf (take q.offset source) names) (sym (same_place p pos at)) given)
names_before source (faults.SourceTooLong p) pos names has at given =
    let begins : p ≡ start = too_long p (has.long has.holds) in
    names_of_nothing source names (subst (λ (q : Pos). AreNamesOf (take q.offset source) names) (sym (same_place p pos at) ∙ begins) given)
names_before source faults.Memory pos names has at given = tt

-- a source without tokens
pub judged_fault : (given : Options) (word source text : List ℕ) (fault : LexFault) (checked : Option (Box Checked Global)) → HasFault source fault → IsFaultTold word source fault text → checked ≡ None
    → IsJudged given word source text (tree_of checked)
judged_fault given word source text fault checked has w none = subst (λ o. IsJudged given word source text (tree_of o)) (sym none) record {
  names = w.names;
  messages = w.messages;
  tree = None;
  finds = inl record { fault = fault; has = has; named = names_before source fault w.said.pos w.names has w.said.at w.given; said = w.said; tree_is = refl };
  text_is = w.text_is;
  accepted = (λ h. absurd (false≢true h), λ h. absurd (lone_error w.messages w.said.pos 3 w.said.words w.said.messages_are h));
  same = tt;
}

-- a source with tokens
pub judged_tokens : (given : Options) (word source text : List ℕ) (lexed : Lexed) (checked : Option ProgramTree) → HasTokens source lexed
    → AreTokensTold given word lexed text checked → IsJudged given word source text checked
judged_tokens given word source text lexed checked has w = record {
  names = names_of lexed;
  messages = w.messages;
  tree = w.tree;
  finds = inr record { lexed = lexed; has = has; names_are = refl; said = w.said };
  text_is = w.text_is;
  accepted = w.accepted;
  same = w.same;
}

-- E01 is an error, wherever it stands
is_error : (lexed : Lexed) (o : Option Token) → (syntax_error lexed o).severity ≡ Error
is_error lexed None = refl
is_error lexed (Some t) = refl

-- an error alone
error_alone : (message : Said) → message.severity ≡ Error → NoErrors (message ∷ []) → ⊥
error_alone message is none = none message (Contains-push [] message) is

-- tokens with one message, which is an error
told_alone : (given : Options) (word text : List ℕ) (names : List (List ℕ)) (lexed : Lexed) (message : Said) (checked : Option (Box Checked Global)) → names ≡ names_of lexed
    → message.severity ≡ Error → IsSaidOf given lexed (message ∷ []) None → text ≡ messages_text word names (message ∷ []) → checked ≡ None
    → AreTokensTold given word lexed text (tree_of checked)
told_alone given word text names lexed message checked named error said is none = subst (λ o. AreTokensTold given word lexed text (tree_of o)) (sym none) record {
  messages = message ∷ [];
  tree = None;
  said = said;
  text_is = is ∙ ap (λ n. messages_text word n (message ∷ [])) named;
  accepted = (λ h. absurd (false≢true h), λ h. absurd (error_alone message error h));
  same = tt;
}

-- tokens that are no program
pub told_stuck : (given : Options) (word text : List ℕ) (names : List (List ℕ)) (lexed : Lexed) (k : ℕ) (checked : Option (Box Checked Global)) → names ≡ names_of lexed
    → IsUnexpected programs 64 lexed.tokens.items k → text ≡ messages_text word names (syntax_error lexed (slice_get lexed.tokens.items k) ∷ []) → checked ≡ None
    → AreTokensTold given word lexed text (tree_of checked)
told_stuck given word text names lexed k checked named read is none =
    told_alone given word text names lexed (syntax_error lexed (slice_get lexed.tokens.items k)) checked named (is_error lexed (slice_get lexed.tokens.items k))
    (inr (inl record { k = k; read = read; messages_are = refl; tree_is = refl })) is none

-- tokens that are nested too deep
pub told_deep : (given : Options) (word text : List ℕ) (names : List (List ℕ)) (lexed : Lexed) (k : ℕ) (token : Token) (checked : Option (Box Checked Global)) → names ≡ names_of lexed
    → IsTooDeep programs 64 lexed.tokens.items k → slice_get lexed.tokens.items k ≡ Some token → text ≡ messages_text word names (nesting_error token ∷ []) → checked ≡ None
    → AreTokensTold given word lexed text (tree_of checked)
told_deep given word text names lexed k token checked named read at is none =
    told_alone given word text names lexed (nesting_error token) checked named refl
    (inr (inr record { k = k; read = read; token = token; at = at; messages_are = refl; tree_is = refl })) is none

-- a tree that is given as this one is this one
some_tree : (o : Option ProgramTree) (p : ProgramTree) → IfSome o (λ q. q ≡ p) → IfSome o (λ q. Some p ≡ Some q)
some_tree None p h = tt
some_tree (Some q) p h = ap Some (sym h)

-- tokens that are a program
pub told_program : (given : Options) (word text : List ℕ) (names : List (List ℕ)) (lexed : Lexed) (whole : ProgramTree) (embedded : List Pos) (beyond : Option Pos)
    (checked : Option ProgramTree) → names ≡ names_of lexed → embedded ≡ lexed.embedded.items → beyond ≡ first_place (drop 65536 lexed.tokens.items)
    → IsProgram 64 whole → Spells programs whole lexed.tokens.items → IsTreeTold given word names whole embedded beyond text checked
    → AreTokensTold given word lexed text checked
told_program given word text names lexed whole embedded beyond checked named pieces past is spelled w = record {
  messages = w.messages;
  tree = Some whole;
  said = inl record {
    whole = whole;
    is = is;
    spelled = spelled;
    tree_is = refl;
    said = subst (λ (b : Option Pos). IsTreeSaid given whole lexed.embedded.items b w.messages) past (subst (λ (e : List Pos). IsTreeSaid given whole e beyond w.messages) pieces w.said);
  };
  text_is = w.text_is ∙ ap (λ n. messages_text word n w.messages) named;
  accepted = w.accepted;
  same = some_tree checked whole w.same;
}

-- a tree is there where a checked program is
is_some_tree : (o : Option Checked) → IsSome (checked_tree o) ↔ IsSome o
is_some_tree None = (λ h. h, λ h. h)
is_some_tree (Some c) = (λ h. h, λ h. h)

-- the tree of a checked program is its own
if_some_tree : (o : Option Checked) (p : Program) → IfSome o (λ c. c.program ≡ p) → IfSome (checked_tree o) (λ q. q ≡ program_view p)
if_some_tree None p h = tt
if_some_tree (Some c) p h = ap program_view h

-- the options in force are those of the program's own tree
checked_options : (given : Options) (p : Program) (o : Option Checked) → IfSome o (λ c. c.program ≡ p) → IfSome o (λ c. c.options ≡ options_in_force (program_view p) given)
    → IfSome o (λ c. c.options ≡ options_in_force (program_view c.program) given)
checked_options given p None same are = tt
checked_options given p (Some c) same are = are ∙ ap (λ q. options_in_force (program_view q) given) (sym same)

-- what is said of a program, by the messages of its check
told_checked : (given : Options) (word text : List ℕ) (names : List (List ℕ)) (p : Program) (messages : List Said) (checked : Option Checked)
    → ((m : Said) → Contains messages m ↔ IsSaid given (program_view p) p.embedded.items p.beyond m) → IsInOrder messages
    → (IsSome checked ↔ IsAccepted (options_in_force (program_view p) given) p) → IfSome checked (λ c. c.program ≡ p)
    → text ≡ messages_text word names messages → IsTreeTold given word names (program_view p) p.embedded.items p.beyond text (checked_tree checked)
told_checked given word text names p messages checked exactly in_order accepted same is =
    let some = is_some_tree checked in
    record {
      messages = messages;
      said = record { exactly = exactly; in_order = in_order };
      text_is = is;
      accepted = (λ h m k. accepted.0 (some.0 h) m ((exactly m).0 k), λ none. some.1 (accepted.1 (λ m said. none m ((exactly m).1 said))));
      same = if_some_tree checked p same;
    }

-- the same in a box
pub told_held : (given : Options) (word text : List ℕ) (names : List (List ℕ)) (p : Program) (messages : List Said) (checked : Option Checked) (held : Option (Box Checked Global))
    → unboxed held ≡ checked
    → ((m : Said) → Contains messages m ↔ IsSaid given (program_view p) p.embedded.items p.beyond m) → IsInOrder messages
    → (IsSome checked ↔ IsAccepted (options_in_force (program_view p) given) p) → IfSome checked (λ c. c.program ≡ p)
    → text ≡ messages_text word names messages → IsTreeTold given word names (program_view p) p.embedded.items p.beyond text (tree_of held)
told_held given word text names p messages checked held in_box exactly in_order accepted same is =
    subst (λ (t : Option ProgramTree). IsTreeTold given word names (program_view p) p.embedded.items p.beyond text t) (ap checked_tree (sym in_box) ∙ unboxed_tree held)
    (told_checked given word text names p messages checked exactly in_order accepted same is)

-- the options of what is in a box
held_options : (given : Options) (held : Option (Box Checked Global)) → IfSome (unboxed held) (λ c. c.options ≡ options_in_force (program_view c.program) given)
    → IfSome held (λ b. b.value.options ≡ options_in_force (program_view b.value.program) given)
held_options given None are = tt
held_options given (Some b) are = are

-- the options of a checked program, in a box
pub boxed_options : (given : Options) (p : Program) (checked : Option Checked) (held : Option (Box Checked Global)) → unboxed held ≡ checked
    → IfSome checked (λ c. c.program ≡ p) → IfSome checked (λ c. c.options ≡ options_in_force (program_view p) given)
    → IfSome held (λ b. b.value.options ≡ options_in_force (program_view b.value.program) given)
boxed_options given p checked held in_box same are =
    held_options given held (subst (λ (o : Option Checked). IfSome o (λ c. c.options ≡ options_in_force (program_view c.program) given)) (sym in_box)
    (checked_options given p checked same are))

module _ {O : Type 0} (IsRight : ProgramTree → Options → O → Type 0) (given : Options) (word source text : List ℕ) (said : Option O) where
  -- what is answered of a source with an error
  pub refused : (checked : Option (Box Checked Global)) → checked ≡ None → IsJudged given word source text (tree_of checked) → said ≡ None →
      IsAnswered IsRight given word source text said
  refused checked none w is = record {
    names = w.names;
    messages = w.messages;
    tree = w.tree;
    finds = w.finds;
    text_is = w.text_is;
    says = subst (λ (o : Option O). SaysIf IsRight given w.messages w.tree o) (sym is)
        (λ h. false≢true (subst (λ o. IsSome (tree_of o)) none (w.accepted.1 h)));
  }

  -- and of a program that is accepted
  pub accepted : (checked : Option (Box Checked Global)) (c : Box Checked Global) (o : O) → checked ≡ Some c → IsJudged given word source text (tree_of checked) →
      c.value.options ≡ options_in_force (program_view c.value.program) given → IsRight (program_view c.value.program) c.value.options o → said ≡ Some o →
      IsAnswered IsRight given word source text said
  accepted checked c o some w are right is =
      let v = subst (λ o. IsJudged given word source text (tree_of o)) some w in
      let whole = program_view c.value.program in
      record {
        names = v.names;
        messages = v.messages;
        tree = v.tree;
        finds = v.finds;
        text_is = v.text_is;
        says = subst (λ (x : Option O). SaysIf IsRight given v.messages v.tree x) (sym is)
            (v.accepted.0 refl, (whole, (v.same, subst (λ options. IsRight whole options o) are right)));
      }

-- a tree that is given is the one that was found
same_some : (tree : Option ProgramTree) (p : ProgramTree) (asked : Bool) → tree ≡ Some p → asked_tables asked p ≡ tables_text asked Well tree
same_some tree p true e = ap (λ t. tables_text true Well t) (sym e)
same_some tree p false e = refl

-- the tables that are asked for, of a program that is lent
pub asked_are : (asked : Bool) (p q : Program) (text : List ℕ) → asked ≡ true → q ≡ p → text ≡ tables (program_view q) → AreTablesOf asked (program_view p) text
asked_are asked p q text ea same is = is ∙ ap (λ r. tables (program_view r)) same ∙ ap (λ (b : Bool). asked_tables b (program_view p)) (sym ea)

-- there are no tables with an error
no_tables : (asked : Bool) (tree : Option ProgramTree) → [] ≡ tables_text asked SourceErrors tree
no_tables true None = refl
no_tables true (Some p) = refl
no_tables false tree = refl

module _ {O : Type 0} (text_of : O → List ℕ) (given : Options) (asked : Bool) (word source text shown : List ℕ) where
  -- a report on a source with an error
  pub report_refused : (said : Option O) → said ≡ None → IsAnswered (λ whole options o. AreTablesOf asked whole (text_of o)) given word source text said → shown ≡ [] →
      IsReport given asked word source text shown SourceErrors
  report_refused said none w e =
      let v = subst (λ (o : Option O). IsAnswered (λ whole options x. AreTablesOf asked whole (text_of x)) given word source text o) none w in
      record {
        names = v.names;
        messages = v.messages;
        tree = v.tree;
        finds = v.finds;
        text_is = v.text_is;
        status_is = v.says;
        shown_is = e ∙ no_tables asked v.tree;
      }

  -- and on a program
  pub reported : (said : Option O) (o : O) → said ≡ Some o → IsAnswered (λ whole options x. AreTablesOf asked whole (text_of x)) given word source text said → shown ≡ text_of o →
      IsReport given asked word source text shown Well
  reported said o some w e =
      let v = subst (λ (o : Option O). IsAnswered (λ whole options x. AreTablesOf asked whole (text_of x)) given word source text o) some w in
      let whole : ProgramTree = v.says.1.0 in
      record {
        names = v.names;
        messages = v.messages;
        tree = v.tree;
        finds = v.finds;
        text_is = v.text_is;
        status_is = v.says.0;
        shown_is = e ∙ v.says.1.1.1 ∙ same_some v.tree whole asked v.says.1.1.0;
      }

-- a machine that was loaded begins in the first world of its program
pub ran_first : (m : Machine) (task : Task) (first : World) (budget : ℕ) (end : End) (old new : List ℕ) (ended : Bool) (told told' : Option (List ℕ)) (w : World) → world_held m ≡ first
    → RunsOn (rules_by task budget) end old new ended (standing [] 1 m told) w told'
    → RunsOn (rules_by task budget) end old new ended (at_first first told) w told'
ran_first m task first budget end old new ended told told' w is ran = subst (λ (v : World). RunsOn (rules_by task budget) end old new ended (at_first v told) w told') is ran

-- the machine that a job has made
abbrev pub LoadedBy : (macros : List ℕ) (budget : ℕ) → ProgramTree → Options → Box Machine Global → Type 0
LoadedBy macros budget whole options machine = IsLoaded whole macros (waits options) budget machine.value

module _ {R S : Type 0} (source_gave : R → List ℕ) (source_ended : R → Bool) (source_failures : R → ℕ) (sink_told : S → Option (List ℕ)) (sink_failures : S → ℕ)
    (given : Options) (word macros source text : List ℕ) (budget : ℕ) (trace trace' : R) (sink sink' : S) where
  -- a session on a source with an error
  pub session_refused : (said : Option (Box Machine Global)) → said ≡ None → IsAnswered (LoadedBy macros budget) given word source text said → trace' ≡ trace → sink' ≡ sink
      → IsSession source_gave source_ended source_failures sink_told sink_failures given word macros source budget trace trace' sink sink' text None SourceErrors
  session_refused said none w unread unwritten =
      let v = subst (λ (o : Option (Box Machine Global)). IsAnswered (LoadedBy macros budget) given word source text o) none w in
      record {
        names = v.names;
        messages = v.messages;
        tree = v.tree;
        finds = v.finds;
        text_is = v.text_is;
        goes_on = (v.says, refl, unread, unwritten);
      }

  -- a session that ran the program
  pub session_ran : (said : Option (Box Machine Global)) (m : Box Machine Global) (end : End) → said ≡ Some m → IsAnswered (LoadedBy macros budget) given word source text said
      → ((whole : ProgramTree) (options : Options) → LoadedBy macros budget whole options m
      → IsRunOf source_gave source_ended source_failures sink_told sink_failures whole (links whole macros) (waits options) budget trace trace' sink sink' end)
      → IsSession source_gave source_ended source_failures sink_told sink_failures given word macros source budget trace trace' sink sink' text (Some end) (status_of end)
  session_ran said m end some w ran =
      let v = subst (λ (o : Option (Box Machine Global)). IsAnswered (LoadedBy macros budget) given word source text o) some w in
      let whole : ProgramTree = v.says.1.0 in
      record {
        names = v.names;
        messages = v.messages;
        tree = v.tree;
        finds = v.finds;
        text_is = v.text_is;
        goes_on = (v.says.0, refl, record { whole = whole; tree_is = v.says.1.1.0; run = ran whole (options_in_force whole given) v.says.1.1.1 });
      }
