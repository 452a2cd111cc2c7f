-- What a caller may read of one argument of a command, after a parse that found no fault.
use Rattle.std.proofs.Common.{zero, suc, ◌≡◌, ◌∙◌, ◌<◌, ◌≤◌, ap, ℕ, Bool, true, false, List, [], ◌∷◌, length, is_some, Option, Some, None, refl, sym, subst, inl, inr, arith}
use Rattle.std.specs.Prelude.{find, option_map, slice_get}
use Rattle.std.specs.Borrow.{Bor}
use Rattle.std.specs.List.{All, slice_index_or}
use Rattle.std.specs.Str.{bytes_eq}
use Rattle.std.proofs.lemmas.List.{length-map}
use Rattle.std.proofs.lemmas.List.Elements.{All-get_or}
use Rattle.std.proofs.lemmas.Slice.Eq.{bytes_eq-Decides}
use Rattle.clap.specs.Texts.{items_of}
use Rattle.clap.specs.Facts.{Entry, EntryPasses, IsParsed, WantsDefault, HasIn, HasReading, PassesArg, ValuesPass, args_of, groups_of, least_values, parser_of, parser_of_value, unwrap_or_range}
use Rattle.clap.specs.Built.{IsParsedFrom, SameRules}
use Rattle.clap.specs.Matches.{first_value, found_of, has_subcommand, matched_of, one_text}
use Rattle.clap.specs.Values.{Accepts, read_as, reading_of}
use Rattle.clap.specs.Walk.{Rule, Text}
use Rattle.clap.specs.declared.builder.action.ArgAction.TheVariants.{Count, Set}
use Rattle.clap.specs.declared.builder.arg.Arg.{Arg}
use Rattle.clap.specs.declared.builder.command.Command.{Command}
use Rattle.clap.specs.declared.builder.range.ValueRange.{ValueRange}
use Rattle.clap.specs.declared.builder.value_parser.Reading.{Reading}
use Rattle.clap.specs.declared.builder.value_parser.ValueParser.{ValueParser}
use Rattle.clap.specs.declared.parser.matches.ArgMatches.{ArgMatches}
use Rattle.clap.specs.declared.parser.matches.Found.{Found}
use Rattle.clap.specs.declared.parser.matches.MatchedArg.{MatchedArg}
use Rattle.clap.proofs.CallerLemmas.{default_present, entry_by_id, present_has_entry, required_present, same_rules_by_id}
use Rattle.snc_args.proofs.Arguments.{IsArgument, IsOpen, no_conditions, no_delimiter}

-- ---- what a parse gives of it

-- A list that is not empty has a first text.
value_first : (xs : List (Bor Text)) → 0 < length xs → is_some (option_map (λ s. s.now) (slice_get xs 0)) ≡ true
value_first [] lt = absurd (omega arith)
value_first (x ∷ xs) lt = refl

-- An argument that takes one value, and that has an entry, has a first value.
value_there : (c : Command) (m : ArgMatches) (p : IsParsedFrom c m) → IsOpen c → (k : ℕ) (d : Arg) (r : Rule) → IsArgument c k d r
    → (slice_index_or (args_of c) k d).action ≡ Some Set → 1 ≤ least_values (slice_index_or (args_of c) k d)
    → is_some (matched_of (found_of m) (slice_index_or (args_of c) k d).id.now) ≡ true
    → is_some (first_value (found_of m) (slice_index_or (args_of c) k d).id.now) ≡ true
value_there c m p free k d r is set least some =
    go (matched_of (found_of m) (slice_index_or (args_of c) k d).id.now) refl some (p.parsed (p.from.globals ∙ free.globals))
  where
    go : (o : Option MatchedArg) → matched_of (found_of m) (slice_index_or (args_of c) k d).id.now ≡ o
        → is_some (matched_of (found_of m) (slice_index_or (args_of c) k d).id.now) ≡ true
        → IsParsed p.built (found_of m) (has_subcommand m)
        → is_some (first_value (found_of m) (slice_index_or (args_of c) k d).id.now) ≡ true
    go None e there parsed = cc
    go (Some x) e there parsed =
        let got = entry_by_id (EntryPasses p.built) (found_of m).entries.items (slice_index_or (args_of c) k d).id.now x parsed.values e in
        let same_x : got.0.1 ≡ x = got.1 in
        let key : bytes_eq got.0.0.now (slice_index_or (args_of c) k d).id.now ≡ true = got.2 in
        let key_id : got.0.0.now ≡ (slice_index_or (args_of c) k d).id.now = (bytes_eq-Decides _ _).0 key in
        let no_groups : groups_of p.built ≡ [] = (p.from.plain free.plain).1 in
        let no_delim : (slice_index_or (args_of c) k d).val_delim ≡ None = no_delimiter (slice_index_or (args_of c) k d) is.simple in
        elim got.3.1 [
          | inl h ↦ elim h.1 [
            | inl empty ↦ absurd (is.named (sym key_id ∙ empty))
            | inr has ↦
                let bad : 0 < 0 = rw no_groups at has in
                absurd (omega arith)
          ]
          | inr (inl v) ↦ rw e (value_first x.vals.items (rw same_x at v))
          | inr (inr (inl h)) ↦
              let any = h.1 in
              let s = same_rules_by_id c m p k d is.inside is.lone is.own any.0 any.1 any.2 any.3 (rw key_id at any.4.0) in
              let is_set : any.1.action ≡ Some Set = s.action Set set in
              let bad : Set ≡ Count = rw is_set at any.4.1 in
              cc
          | inr (inr (inr h)) ↦
              let s = same_rules_by_id c m p k d is.inside is.lone is.own h.0 h.1 h.2 h.3 (rw key_id at h.4.0) in
              elim h.4.1 [
                | inl none ↦
                    let one = s.least set least in
                    absurd (omega arith)
                | inr has ↦
                    let bad : false ≡ true = rw (s.val_delim, no_delim) at has in
                    cc
              ]
        ]

-- An argument with no range of its own takes one value.
one_value : (a : Arg) → a.num_vals ≡ None → 1 ≤ least_values a
one_value a e = subst (λ (v : Option ValueRange). 1 ≤ (unwrap_or_range v).start_inclusive) (sym e) (omega arith)

-- A required argument that takes one value has it.
pub required_value : (c : Command) (m : ArgMatches) → IsParsedFrom c m → IsOpen c → (k : ℕ) (d : Arg) (r : Rule) → IsArgument c k d r
    → r.required ≡ true → r.action ≡ Some Set → r.range ≡ None → is_some (first_value (found_of m) r.id) ≡ true
required_value c m p free k d r is required set range =
    let a = slice_index_or (args_of c) k d in
    let there = present_has_entry (found_of m) a.id.now
    (required_present c m p free.plain free.globals free.negates k d is.inside (ap (λ (s : Rule). s.required) is.rule ∙ required)) in
    let least : 1 ≤ least_values a = one_value a (ap (λ (s : Rule). s.range) is.rule ∙ range) in
    let has = value_there c m p free k d r is (ap (λ (s : Rule). s.action) is.rule ∙ set) least there in
    subst (λ (t : Text). is_some (first_value (found_of m) t) ≡ true) (ap (λ (s : Rule). s.id) is.rule) has

-- Where the entries have an id, a search finds it.
found_in : (xs : List Entry) (id : Text) → HasIn xs id → is_some (option_map (λ e. e.1) (find (λ e. bytes_eq e.0.now id) xs)) ≡ true
found_in [] id h = let bad : h.0 < 0 = h.1 in absurd (omega arith)
found_in (x ∷ xs) id h = go (bytes_eq x.0.now id) refl (λ rest. found_in xs id rest) h.0 h.1 h.2
  where
    go : (b : Bool) → bytes_eq x.0.now id ≡ b → (HasIn xs id → is_some (option_map (λ e. e.1) (find (λ e. bytes_eq e.0.now id) xs)) ≡ true)
        → (i : ℕ) → i < length (x ∷ xs) → ((d : Entry) → bytes_eq (slice_index_or (x ∷ xs) i d).0.now id ≡ true)
        → is_some (option_map (λ e. e.1) (find (λ e. bytes_eq e.0.now id) (x ∷ xs))) ≡ true
    go true e rest i lt at = rw e refl
    go false e rest zero lt at =
        let yes : bytes_eq x.0.now id ≡ true = at x in
        let bad : false ≡ true = sym e ∙ yes in
        cc
    go false e rest (suc i) lt at = rw e (rest (i, omega arith, λ d. at d))

-- An argument with a default that takes one value has one.
pub default_value : (c : Command) (m : ArgMatches) → IsParsedFrom c m → IsOpen c → (k : ℕ) (d : Arg) (r : Rule) → IsArgument c k d r
    → 0 < length r.defaults → r.action ≡ Some Set → r.range ≡ None → is_some (first_value (found_of m) r.id) ≡ true
default_value c m p free k d r is some set range =
    let a = slice_index_or (args_of c) k d in
    let texts : length (items_of a.default_vals) ≡ length r.defaults =
    sym (length-map (items_of a.default_vals) (λ s. s.now)) ∙ ap (λ (s : Rule). length s.defaults) is.rule in
    let wants : WantsDefault a = (no_conditions a is.simple, omega arith) in
    let there = found_in (found_of m).entries.items a.id.now (default_present c m p free.globals k d is.inside wants) in
    let least : 1 ≤ least_values a = one_value a (ap (λ (s : Rule). s.range) is.rule ∙ range) in
    let has = value_there c m p free k d r is (ap (λ (s : Rule). s.action) is.rule ∙ set) least there in
    subst (λ (t : Text). is_some (first_value (found_of m) t) ≡ true) (ap (λ (s : Rule). s.id) is.rule) has

-- ---- as its parser reads it

-- The first of the values that all have a fact.
head_has : (P : Bor Text → Type 0) (how : Reading) (vs : List (Bor Text)) → All P vs
    → is_some (option_map (λ s. s.now) (slice_get vs 0)) ≡ true
    → (v : Bor Text) × (option_map (λ s. read_as how s.now) (slice_get vs 0) ≡ Some (read_as how v.now)) × P v
head_has P how [] h some = cc
head_has P how (v ∷ vs) h some = (v, refl, All-get_or P (v ∷ vs) 0 v (omega arith) h)

-- The text of an entry.
text_at_entry : (f : Found) (id : Text) (x : MatchedArg) (how : Reading) (t : Text) → matched_of f id ≡ Some x → x.reading ≡ how
    → option_map (λ s. read_as how s.now) (slice_get x.vals.items 0) ≡ Some t → one_text f id ≡ Some t
text_at_entry f id x how t found is v = rw (found, is) v

-- What has the id of the argument is read as the parser of the argument says.
reading_is : (c : Command) (m : ArgMatches) (p : IsParsedFrom c m) (k : ℕ) (d : Arg) (r : Rule) → IsArgument c k d r
    → (q : ValueParser) → (slice_index_or (args_of c) k d).value_parser ≡ Some q
    → (how : Reading) → HasReading p.built (slice_index_or (args_of c) k d).id.now how → how ≡ reading_of q
reading_is c m p k d r is q parser how any =
    let s = same_rules_by_id c m p k d is.inside is.lone is.own any.0 any.1 any.2 any.3 any.4.0 in
    let is_q : parser_of any.1 ≡ q = ap parser_of_value (s.parser q parser) in
    sym any.4.1 ∙ ap reading_of is_q

-- A value that passed the parser after the building of the command passes the parser of the argument.
accepts_of : (a y : Arg) (q : ValueParser) (t : Text) → SameRules a y → a.value_parser ≡ Some q
    → Accepts y.ignore_case (parser_of y) t → Accepts a.ignore_case q t
accepts_of a y q t s parser read =
    let is_q : parser_of y ≡ q = ap parser_of_value (s.parser q parser) in
    let as_q : Accepts y.ignore_case q t = subst (λ (w : ValueParser). Accepts y.ignore_case w t) is_q read in
    subst (λ (b : Bool). Accepts b q t) s.ignore_case as_q

-- A value under the id of the argument passed its parser.
passes_of : (c : Command) (m : ArgMatches) (p : IsParsedFrom c m) (k : ℕ) (d : Arg) (r : Rule) → IsArgument c k d r
    → (q : ValueParser) → (slice_index_or (args_of c) k d).value_parser ≡ Some q
    → (v : Bor Text) → PassesArg p.built (slice_index_or (args_of c) k d).id.now v.now
    → Accepts (slice_index_or (args_of c) k d).ignore_case q v.now
passes_of c m p k d r is q parser v pass =
    accepts_of (slice_index_or (args_of c) k d) pass.1 q v.now
    (same_rules_by_id c m p k d is.inside is.lone is.own pass.0 pass.1 pass.2 pass.3 pass.4.0) parser pass.4.1

-- What one entry gives.
read_of : (c : Command) (f : Found) (id : Text) (Q : Text → Type 0) (how : Reading) (x : MatchedArg) (e : Entry)
    → groups_of c ≡ [] → (id ≡ [] → ⊥) → ((w : Reading) → HasReading c id w → w ≡ how)
    → ((v : Bor Text) → PassesArg c id v.now → Q v.now)
    → matched_of f id ≡ Some x → is_some (option_map (λ s. s.now) (slice_get x.vals.items 0)) ≡ true
    → e.1 ≡ x → e.0.now ≡ id → EntryPasses c e
    → (t : Text) × (one_text f id ≡ Some (read_as how t)) × Q t
read_of c f id Q how x e no_groups named reads read found first same_x key_id pass =
    let no_group : e.1.is_group ≡ true → ⊥ = λ g. elim (pass.3 g) [
      | inl empty ↦ named (sym key_id ∙ empty)
      | inr lots ↦
          let bad : 0 < 0 = rw no_groups at lots in
          absurd (omega arith)
    ] in
    let all : All (λ v. PassesArg c id v.now) x.vals.items = elim pass.0 [
      | inl g ↦ absurd (no_group g)
      | inr vals ↦ subst (λ (w : Text). All (λ v. PassesArg c w v.now) x.vals.items) key_id (rw same_x at vals)
    ] in
    let is : e.1.reading ≡ how = elim pass.4 [
      | inl g ↦ absurd (no_group g)
      | inr h ↦ reads e.1.reading (subst (λ (w : Text). HasReading c w e.1.reading) key_id h)
    ] in
    finish (head_has (λ v. PassesArg c id v.now) how x.vals.items all first) (ap (λ (y : MatchedArg). y.reading) (sym same_x) ∙ is)
  where
    finish : ((v : Bor Text) × (option_map (λ s. read_as how s.now) (slice_get x.vals.items 0) ≡ Some (read_as how v.now)) × PassesArg c id v.now)
        → x.reading ≡ how → (t : Text) × (one_text f id ≡ Some (read_as how t)) × Q t
    finish hd is = (hd.0.now, text_at_entry f id x how (read_as how hd.0.now) found is hd.1, read hd.0 hd.2)

-- What the entry of an id gives, where it is an argument's with a first value.
entry_read : (c : Command) (f : Found) (id : Text) (Q : Text → Type 0) (how : Reading) → ValuesPass c f → groups_of c ≡ [] → (id ≡ [] → ⊥)
    → is_some (first_value f id) ≡ true → ((w : Reading) → HasReading c id w → w ≡ how)
    → ((v : Bor Text) → PassesArg c id v.now → Q v.now)
    → (t : Text) × (one_text f id ≡ Some (read_as how t)) × Q t
entry_read c f id Q how values no_groups named has reads read = go (matched_of f id) refl has
  where
    step : (x : MatchedArg) → matched_of f id ≡ Some x → is_some (option_map (λ s. s.now) (slice_get x.vals.items 0)) ≡ true
        → ((e : Entry) × (e.1 ≡ x) × (bytes_eq e.0.now id ≡ true) × EntryPasses c e)
        → (t : Text) × (one_text f id ≡ Some (read_as how t)) × Q t
    step x found first got =
        read_of c f id Q how x got.0 no_groups named reads read found first got.1 ((bytes_eq-Decides got.0.0.now id).0 got.2) got.3

    go : (o : Option MatchedArg) → matched_of f id ≡ o → is_some (first_value f id) ≡ true → (t : Text) × (one_text f id ≡ Some (read_as how t)) × Q t
    go None e h =
        let bad : false ≡ true = rw e at h in
        cc
    go (Some x) e h = step x e (rw e at h) (entry_by_id (EntryPasses c) f.entries.items id x values e)

-- An argument that has a value has a text that passed its parser, and that is read as that parser says.
pub text_read : (c : Command) (m : ArgMatches) → IsParsedFrom c m → IsOpen c → (k : ℕ) (d : Arg) (r : Rule) → IsArgument c k d r
    → (q : ValueParser) → r.parser ≡ Some q → is_some (first_value (found_of m) r.id) ≡ true
    → (t : Text) × (one_text (found_of m) r.id ≡ Some (read_as (reading_of q) t)) × Accepts r.ignore_case q t
text_read c m p free k d r is q parser has =
    let a = slice_index_or (args_of c) k d in
    let id : a.id.now ≡ r.id = ap (λ (s : Rule). s.id) is.rule in
    let parsed = p.parsed (p.from.globals ∙ free.globals) in
    let is_q : a.value_parser ≡ Some q = ap (λ (s : Rule). s.parser) is.rule ∙ parser in
    let has_it : is_some (first_value (found_of m) a.id.now) ≡ true = subst (λ (t : Text). is_some (first_value (found_of m) t) ≡ true) (sym id) has in
    let got = entry_read p.built (found_of m) a.id.now (λ (t : Text). Accepts a.ignore_case q t) (reading_of q)
    parsed.values (p.from.plain free.plain).1 is.named has_it (reading_is c m p k d r is q is_q) (passes_of c m p k d r is q is_q) in (
      got.0,
      subst (λ (t : Text). one_text (found_of m) t ≡ Some (read_as (reading_of q) got.0)) id got.1,
      subst (λ (b : Bool). Accepts b q got.0) (ap (λ (s : Rule). s.ignore_case) is.rule) got.2,
    )

-- ---- from one way to read to the other

-- A first value that is read is there.
value_of_text : (how : Reading) (vs : List (Bor Text)) (t : Text) → option_map (λ s. read_as how s.now) (slice_get vs 0) ≡ Some t
    → is_some (option_map (λ s. s.now) (slice_get vs 0)) ≡ true
value_of_text how [] t e = cc
value_of_text how (v ∷ vs) t e = refl

-- What has a text has a first value.
pub has_value : (f : Found) (id t : Text) → one_text f id ≡ Some t → is_some (first_value f id) ≡ true
has_value f id t e = go (matched_of f id) refl
  where
    go : (o : Option MatchedArg) → matched_of f id ≡ o → is_some (first_value f id) ≡ true
    go None found =
        let bad : None ≡ Some t = rw found at e in
        cc
    go (Some x) found = rw found (value_of_text x.reading x.vals.items t (rw found at e))
