-- A place of the code as a pair.
use Rattle.std.specs.Prelude.{Bool}
use Rattle.snl_watch.specs.Extra.{At}
use Rattle.snl_watch.specs.declared.places.LinePlace.{LinePlace}

-- Whether a line has begun, and whether it is an extra one.
abbrev pub place_of : LinePlace → At
place_of p = (p.within, p.extra)
