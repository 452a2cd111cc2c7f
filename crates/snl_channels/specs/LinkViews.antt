-- Plain forms of what the code hands on while it makes links.
use Rattle.std.specs.Prelude.{List, [], ◌∷◌, Option, None, Some}
use Rattle.snl_syntax.specs.view.Shown.{shown}
use Rattle.snl_syntax.specs.view.Definitions.{channels_view}
use Rattle.snl_channels.specs.declared.said.Said.{Said}
use Rattle.snl_channels.specs.declared.said.Said.TheVariants as declared
use Rattle.snl_channels.specs.declared.ties.Synced.{Synced}
use Rattle.snl_channels.specs.declared.channels.Link.{Link}
use Rattle.snl_channels.specs.Links as plain

-- What a definition says, with the texts of its channels.
abbrev pub said_view : Said → plain.Said
said_view (declared.Assigned name part channels) = plain.assigned name part (shown channels_view channels.now)
said_view (declared.Monitored part) = plain.monitored part
said_view (declared.Synced part flag queue) = plain.synced part flag queue

-- What is said, or nothing.
abbrev pub said_views : Option Said → List plain.Said
said_views None = []
said_views (Some s) = said_view s ∷ []

-- The event flag and the queue of a link.
abbrev pub synced_view : Synced → plain.Synced
synced_view y = record { flag = y.flag; queue = y.queue }

-- A link, with its name as bytes.
abbrev pub link_view : Link → plain.Link
link_view l = record { variable = l.variable; first = l.first; count = l.count; name = l.name.items; monitored = l.monitored; flag = l.flag; queue = l.queue }
