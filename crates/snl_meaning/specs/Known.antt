-- What the crate's own types stand for.
use Rattle.std.specs.Prelude.{List, map, take}
use Rattle.snl_meaning.specs.declared.names.Known.{Known}
use Rattle.snl_meaning.specs.declared.names.Outline as names
use Rattle.snl_meaning.specs.declared.names.Within as names_within
use Rattle.snl_meaning.specs.declared.names.Within.TheVariants as within
use Rattle.snl_meaning.specs.declared.functions.FunctionEntry.{FunctionEntry}
use Rattle.snl_meaning.specs.Names.{Here, Outline, Within, Piece, Body}
use Rattle.snl_meaning.specs.Run.{Entry}

-- A function, as the definitions have it.
abbrev pub outline_view : names.Outline → Outline
outline_view o = record { name = o.name.now; depth = o.depth }

-- Functions, as the definitions have them.
abbrev pub outlines : List names.Outline → List Outline
outlines all = map outline_view all

-- Where the code of a function begins, as the definitions have it.
abbrev pub entry_view : FunctionEntry → Entry
entry_view e = record { start = e.start; parameters = e.parameters.items }

-- The same of functions.
abbrev pub entries : List FunctionEntry → List Entry
entries all = map entry_view all

-- Where code stands, as the definitions have it.
abbrev pub within_view : names_within.Within → Within
within_view within.Piece = Piece
within_view (within.Body least greatest) = Body least greatest

-- What is known, as the definitions have it. Of the functions of the program, those above may be called.
abbrev pub here_of : Known → Here
here_of k = record {
  states = k.states.now;
  sites = k.sites.now;
  variables = k.variables.now;
  within = within_view k.within;
  functions = take k.above k.functions.now;
}
