-- How definitions and options are read, with the depth that is left for what is nested in expressions.
use Rattle.std.specs.Prelude.{ℕ, Bool, true, false, List, ◌⊎◌}
use Rattle.std.proofs.Common.{inl, inr}
use Rattle.snl_text.specs.declared.tokens.Token.{Token}
use Rattle.snl_text.specs.declared.kinds.Kind.{Kind}
use Rattle.snl_text.specs.declared.kinds.Kind.TheVariants.{Name, Whole, Text, Assign, EventFlag, Monitor, OptionWord, Sync, SyncQueue, To, OpenBrace, CloseBrace, OpenBracket, Semicolon, Comma}
use Rattle.snl_syntax.specs.Kinds.{is}
use Rattle.snl_tree.specs.reading.Readers.{Reader, one, both, either, many, made}
use Rattle.snl_tree.specs.reading.Sequences.{maybe, whether, behind, before, between, parted}
use Rattle.snl_syntax.specs.Declarations.{starts_declaration, DeclarationTree}
use Rattle.snl_tree.specs.reading.Declarations.{bracket_at, declaration_at}
use Rattle.snl_syntax.specs.Definitions.{PlaceTree, NamesTree, one_name, name_list, ChannelsTree, AssignTree, FlagTree, SyncTree, QueueTree, SettingTree, DefinitionTree, declaration, assign, monitor, sync, sync_queue, event_flags, setting, starts_definition, starts_part, is_sign}

-- NAME [ '[' expr ']' ]
unfoldable pub place_at : ℕ → Reader PlaceTree
place_at n = made (λ x. record { name = x.0; subscript = x.1 }) (both (one (is Name)) (λ _. maybe (is OpenBracket) (bracket_at n)))

-- STRING ( ',' STRING )*
unfoldable pub strings_at : Reader (List Token)
strings_at = parted Comma (one (is Text))

abbrev pub channel_names : Token ⊎ List Token → NamesTree
channel_names (inl t) = one_name t
channel_names (inr ts) = name_list ts

-- STRING | '{' STRING ( ',' STRING )* '}'
unfoldable pub names_at : Reader NamesTree
names_at = made channel_names (either (is Text) (one (is Text)) (between OpenBrace strings_at CloseBrace))

-- ['to'] names
unfoldable pub channels_at : Reader ChannelsTree
channels_at = made (λ x. record { to = x.0; names = x.1 }) (both (whether To) (λ _. names_at))

abbrev pub starts_channels : Kind → Bool
starts_channels To = true
starts_channels Text = true
starts_channels OpenBrace = true
starts_channels _ = false

-- 'assign' place [ channels ] ';'
unfoldable pub assign_at : ℕ → Reader AssignTree
assign_at n = made (λ x. record { word = x.0; place = x.1.0; channels = x.1.1 }) (both (one (is Assign)) (λ _. both (place_at n) (λ _. before (maybe starts_channels channels_at) Semicolon)))

-- 'monitor' place ';'
unfoldable pub monitor_at : ℕ → Reader PlaceTree
monitor_at n = between Monitor (place_at n) Semicolon

-- ['to'] NAME
unfoldable pub flag_at : Reader FlagTree
flag_at = made (λ x. record { to = x.0; name = x.1 }) (both (whether To) (λ _. one (is Name)))

abbrev pub starts_flag : Kind → Bool
starts_flag To = true
starts_flag Name = true
starts_flag _ = false

-- 'sync' place ['to'] NAME ';'
unfoldable pub sync_at : ℕ → Reader SyncTree
sync_at n = made (λ x. record { place = x.0; flag = x.1 }) (between Sync (both (place_at n) (λ _. flag_at)) Semicolon)

-- ( 'syncq' | 'syncQ' ) place [ ['to'] NAME ] [ WHOLE ] ';'
unfoldable pub queue_at : ℕ → Reader QueueTree
queue_at n = made (λ x. record { word = x.0; place = x.1.0; flag = x.1.1.0; size = x.1.1.1 }) (both (one (is SyncQueue)) (λ _. both (place_at n) (λ _.
    both (maybe starts_flag flag_at) (λ _. before (maybe (is Whole) (one (is Whole))) Semicolon))))

-- NAME ( ',' NAME )*
unfoldable pub flags_at : Reader (List Token)
flags_at = parted Comma (one (is Name))

-- 'evflag' NAME ( ',' NAME )* ';'
unfoldable pub event_flags_at : Reader (List Token)
event_flags_at = between EventFlag flags_at Semicolon

-- 'option' ( '+' | '-' ) NAME ';'
unfoldable pub setting_at : Reader SettingTree
setting_at = made (λ x. record { sign = x.0; name = x.1 }) (behind OptionWord (both (one is_sign) (λ _. before (one (is Name)) Semicolon)))

-- the forms of a definition that is no declaration, told apart by their first words
abbrev pub FormOfOther : Type 0
FormOfOther = AssignTree ⊎ (PlaceTree ⊎ (SyncTree ⊎ (QueueTree ⊎ List Token)))

-- a definition that is no declaration, by its form
abbrev pub other : FormOfOther → DefinitionTree
other (inl a) = assign a
other (inr (inl p)) = monitor p
other (inr (inr (inl s))) = sync s
other (inr (inr (inr (inl q)))) = sync_queue q
other (inr (inr (inr (inr names)))) = event_flags names

-- assign | monitor | sync | syncq | evflag
unfoldable pub other_at : ℕ → Reader DefinitionTree
other_at n = made other (either (is Assign) (assign_at n) (either (is Monitor) (monitor_at n) (either (is Sync) (sync_at n) (either (is SyncQueue) (queue_at n) event_flags_at))))

-- a declaration, or a definition that is none
abbrev pub definition : DeclarationTree ⊎ DefinitionTree → DefinitionTree
definition (inl d) = declaration d
definition (inr d) = d

-- decl | assign | monitor | sync | syncq | evflag
unfoldable pub definition_at : ℕ → Reader DefinitionTree
definition_at n = made definition (either starts_declaration (declaration_at n) (other_at n))

abbrev pub part : SettingTree ⊎ DefinitionTree → DefinitionTree
part (inl o) = setting o
part (inr d) = d

-- def | option
unfoldable pub part_at : ℕ → Reader DefinitionTree
part_at n = made part (either (is OptionWord) setting_at (definition_at n))

-- def*
unfoldable pub definitions_at : ℕ → Reader (List DefinitionTree)
definitions_at n = many starts_definition (definition_at n)

-- ( def | option )*
unfoldable pub parts_at : ℕ → Reader (List DefinitionTree)
parts_at n = many starts_part (part_at n)
