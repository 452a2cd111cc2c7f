-- The plain tree of a declared definition.
use Rattle.std.specs.Prelude.{List, map, Vec}
use Rattle.std.proofs.Common.{Global}
use Rattle.snl_text.specs.declared.tokens.Token.{Token}
use Rattle.snl_syntax.specs.declared.definitions.Def.{Def}
use Rattle.snl_syntax.specs.declared.definitions.Def.TheVariants as Declared
use Rattle.snl_syntax.specs.declared.definitions.Place.{Place}
use Rattle.snl_syntax.specs.declared.definitions.Assign.{Assign}
use Rattle.snl_syntax.specs.declared.definitions.Channels.{Channels}
use Rattle.snl_syntax.specs.declared.definitions.ChannelNames.{ChannelNames}
use Rattle.snl_syntax.specs.declared.definitions.ChannelNames.TheVariants as Names
use Rattle.snl_syntax.specs.declared.definitions.Flag.{Flag}
use Rattle.snl_syntax.specs.declared.definitions.Sync.{Sync}
use Rattle.snl_syntax.specs.declared.definitions.SyncQueue.{SyncQueue}
use Rattle.snl_syntax.specs.declared.definitions.Setting.{Setting}
use Rattle.snl_syntax.specs.view.Shown.{shown, held}
use Rattle.snl_syntax.specs.view.Expressions.{boxed}
use Rattle.snl_syntax.specs.view.Declarations.{declaration_view}
use Rattle.snl_syntax.specs.view.Functions.{function_view}
use Rattle.snl_syntax.specs.Definitions.{PlaceTree, NamesTree, one_name, name_list, ChannelsTree, AssignTree, FlagTree, SyncTree, QueueTree, SettingTree, DefinitionTree, declaration, assign, monitor, sync, sync_queue, event_flags, setting, function}

abbrev pub place_view : Place → PlaceTree
place_view p = record { name = p.name; subscript = shown boxed p.subscript }

abbrev pub token_list : Vec Token Global → List Token
token_list v = v.items

abbrev pub names_view : ChannelNames → NamesTree
names_view (Names.One t) = one_name t
names_view (Names.List v) = name_list (token_list v)

abbrev pub channels_view : Channels → ChannelsTree
channels_view c = record { to = c.to; names = names_view c.names }

abbrev pub assign_view : Assign → AssignTree
assign_view a = record { word = a.word; place = place_view a.place; channels = shown channels_view a.channels }

abbrev pub flag_view : Flag → FlagTree
flag_view f = record { to = f.to; name = f.name }

abbrev pub sync_view : Sync → SyncTree
sync_view s = record { place = place_view s.place; flag = flag_view s.flag }

abbrev pub queue_view : SyncQueue → QueueTree
queue_view q = record { word = q.word; place = place_view q.place; flag = shown flag_view q.flag; size = q.size }

abbrev pub setting_view : Setting → SettingTree
setting_view s = record { sign = s.sign; name = s.name }

abbrev pub definition_view : Def → DefinitionTree
definition_view (Declared.Declaration d) = declaration (declaration_view d)
definition_view (Declared.Assign a) = assign (assign_view a)
definition_view (Declared.Monitor p) = monitor (place_view p)
definition_view (Declared.Sync s) = sync (sync_view s)
definition_view (Declared.SyncQueue q) = sync_queue (queue_view q)
definition_view (Declared.EventFlags v) = event_flags (token_list v)
definition_view (Declared.Setting s) = setting (setting_view s)
definition_view (Declared.Function f) = function (held function_view f)

abbrev pub definition_views : Vec Def Global → List DefinitionTree
definition_views v = map definition_view v.items
