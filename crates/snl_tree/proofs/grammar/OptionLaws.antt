-- The readers of options, and of the definitions among which they stand, are right.
use Rattle.std.proofs.Common.{◌≡◌, ℕ, ◌<◌, length, Ok, true, false, true≢false, List, ◌⊎◌, inl, inr, refl, sym, ap}
use Rattle.snl_text.specs.declared.tokens.Token.{Token}
use Rattle.snl_text.specs.declared.kinds.Kind.{Kind}
use Rattle.snl_text.specs.declared.kinds.Kind.TheVariants.{Name, OptionWord, Plus, Semicolon}
use Rattle.snl_syntax.specs.Kinds.{is}
use Rattle.snl_tree.specs.reading.Readers.{one, both, either}
use Rattle.snl_tree.specs.reading.Sequences.{behind, before}
use Rattle.snl_syntax.specs.Definitions.{SettingTree, DefinitionTree, declaration, assign, monitor, sync, sync_queue, event_flags, setting, function, starts_definition, starts_part, is_sign, setting_slots, definition_slots, IsSetting, IsPart}
use Rattle.snl_tree.specs.reading.Definitions.{setting_at, definition_at, part, part_at, parts_at}
use Rattle.snl_tree.proofs.spelling.Choices.{Heads, is_true, true_is}
use Rattle.snl_tree.proofs.grammar.Shapes.{avoids_heads}
use Rattle.snl_tree.proofs.spelling.Rights.{Form, Right, token_of, one_form, right_one, right_kind, both_form, right_both, right_made, either_form, right_either, behind_form, right_behind, before_form, right_before, many_form, right_many, right_less}
use Rattle.snl_tree.proofs.grammar.DefinitionLaws.{definition_form, right_definition, definition_heads, heads_more}

-- options

-- an option, up to its semicolon
abbrev pub setting_form : Form SettingTree
setting_form = record { slots = setting_slots; good = λ _. IsSetting; follow = λ _ _. Unit {0} }

-- the sign and the name of an option, and the semicolon
abbrev signed_form : Form (Token × Token)
signed_form = both_form (one_form is_sign) (λ _. before_form (one_form (is Name)) Semicolon)

-- the reader of options is right
pub right_setting : Right setting_form (λ _. setting_at)
unfolding setting_at
right_setting =
    right_made (behind_form OptionWord signed_form) setting_form (λ x. record { sign = x.0; name = x.1 }) (λ _. behind OptionWord (both (one is_sign) (λ _. before (one (is Name)) Semicolon)))
    (right_behind OptionWord signed_form (λ _. both (one is_sign) (λ _. before (one (is Name)) Semicolon))
    (right_both (one_form is_sign) (λ _. before_form (one_form (is Name)) Semicolon) (λ _. one is_sign) (λ _ _. before (one (is Name)) Semicolon) (right_one is_sign (token_of Plus) refl)
    (λ _. right_before (one_form (is Name)) (λ _. one (is Name)) Semicolon (right_kind Name) (λ _ _ _. tt)) (λ _ _ _ _ _. tt)))
    (λ n x g. ((g.0, is_true Name x.1.kind g.1), refl)) (λ n o g. ((o.sign, o.name), (g.0, true_is Name o.name.kind g.1), refl)) (λ n x g k f. tt)

-- definitions and options

-- what begins a definition begins a definition or an option
pub definition_starts : (k : Kind) → starts_definition k ≡ true → starts_part k ≡ true
definition_starts OptionWord e = refl
definition_starts _ e = e

-- what begins a definition is not the word `option`
no_option : (k : Kind) → starts_definition k ≡ true → is OptionWord k ≡ false
no_option OptionWord e = absurd (true≢false (sym e))
no_option _ e = refl

-- a definition or an option, which anything may follow
abbrev pub part_form : Form DefinitionTree
part_form = record { slots = definition_slots; good = IsPart; follow = λ _ _. Unit {0} }

-- the reader of definitions and options is right
pub right_part : Right part_form part_at
unfolding part_at
right_part = right_made (either_form setting_form definition_form) part_form part (λ n. either (is OptionWord) setting_at (definition_at n))
    (right_either (is OptionWord) setting_form definition_form (λ _. setting_at) definition_at right_setting right_definition (λ _ _ _. refl)
    (λ n d g. avoids_heads (is OptionWord) (λ _. Unit {0}) (definition_slots d) (heads_more (λ k. starts_definition k ≡ true) (λ k. is OptionWord k ≡ false) (definition_slots d) no_option
    (definition_heads n d g))))
    into onto follows
  where
    into : (n : ℕ) (x : SettingTree ⊎ DefinitionTree) → (either_form setting_form definition_form).good n x
        → IsPart n (part x) × (definition_slots (part x) ≡ (either_form setting_form definition_form).slots x)
    into n (inl o) g = (g, refl)
    into n (inr (setting o)) g = absurd g
    into n (inr (function f)) g = absurd g
    into n (inr (declaration d)) g = (g, refl)
    into n (inr (assign a)) g = (g, refl)
    into n (inr (monitor p)) g = (g, refl)
    into n (inr (sync s)) g = (g, refl)
    into n (inr (sync_queue q)) g = (g, refl)
    into n (inr (event_flags names)) g = (g, refl)

    onto : (n : ℕ) (d : DefinitionTree) → IsPart n d → (x : SettingTree ⊎ DefinitionTree) × (either_form setting_form definition_form).good n x × (part x ≡ d)
    onto n (setting o) g = (inl o, g, refl)
    onto n (function f) g = absurd g
    onto n (declaration d) g = (inr (declaration d), g, refl)
    onto n (assign a) g = (inr (assign a), g, refl)
    onto n (monitor p) g = (inr (monitor p), g, refl)
    onto n (sync s) g = (inr (sync s), g, refl)
    onto n (sync_queue q) g = (inr (sync_queue q), g, refl)
    onto n (event_flags names) g = (inr (event_flags names), g, refl)

    follows : (n : ℕ) (x : SettingTree ⊎ DefinitionTree) → (either_form setting_form definition_form).good n x → (k : Kind) → Unit {0} → (either_form setting_form definition_form).follow x k
    follows n (inl o) g k f = tt
    follows n (inr d) g k f = tt

-- a definition or an option begins with a word that begins either
pub part_heads : (n : ℕ) (d : DefinitionTree) → IsPart n d → Heads (λ k. starts_part k ≡ true) (definition_slots d)
part_heads n (setting o) g = refl
part_heads n (function f) g = absurd g
part_heads n (declaration d) g = definition_starts d.type_name.word.kind (definition_heads n (declaration d) g)
part_heads n (assign a) g = ap starts_part g.0
part_heads n (monitor p) g = refl
part_heads n (sync s) g = refl
part_heads n (sync_queue q) g = ap starts_part g.0
part_heads n (event_flags names) g = refl

-- rows of them

-- a row of definitions and options, which the kinds of P may follow
abbrev pub parts_form : (Kind → Type 0) → Form (List DefinitionTree)
parts_form P = many_form part_form P

-- the reader of rows of definitions and options is right where what follows begins none
pub right_parts : (P : Kind → Type 0) → ((k : Kind) → P k → starts_part k ≡ false) → Right (parts_form P) parts_at
unfolding parts_at
right_parts P stop = right_many starts_part part_form P part_at right_part part_heads stop (λ _ _ _ _ _. tt) (λ _ _ _ _ _. tt)

-- fewer tokens are left after a definition or an option
pub part_less : (n : ℕ) (ts rest : List Token) (d : DefinitionTree) → part_at n ts ≡ Ok (d, rest) → length rest < length ts
part_less n ts rest d h = right_less part_form part_at right_part (λ n d g. heads_more (λ k. starts_part k ≡ true) (λ _. Unit {0}) (definition_slots d) (λ _ _. tt) (part_heads n d g)) n ts rest d h
