-- What a picture shows, and its text in the language of Graphviz, line by line.
use Rattle.std.specs.Prelude.{ℕ, suc, ◌==◌, Bool, List, [], ◌∷◌, ◌++◌, map, codes, if◌then◌else◌}
use Rattle.std.specs.List.{flat_map}
use Rattle.std.specs.Str.{bytes_eq}
use Rattle.snl_output.specs.Lines.{joined}
use Rattle.snl_outline.specs.Shapes.{SetShape, Shape, StateShape}
use Rattle.snl_coverage.specs.declared.pictures.Arrow.{Arrow}
use Rattle.snl_coverage.specs.declared.pictures.Cluster.{Cluster}
use Rattle.snl_coverage.specs.declared.pictures.StateNode.{StateNode}
use Rattle.snl_coverage.specs.declared.pictures.Picture.{Picture}

-- ---- what it shows

-- Where the arrows of a state lead,
abbrev pub pictured_arrows : List Arrow → List (List ℕ)
pictured_arrows arrows = map (λ a. a.target.items) arrows

-- and the shape that a picture shows, of a state,
abbrev pub pictured_state : StateNode → StateShape
pictured_state n = record { name = n.name.items; targets = pictured_arrows n.arrows.items }

-- of a state set,
abbrev pub pictured_set : Cluster → SetShape
pictured_set c = record { name = c.name.items; states = map pictured_state c.nodes.items }

-- and of a program.
abbrev pub pictured : Picture → Shape
pictured p = record { name = p.name.items; sets = map pictured_set p.clusters.items }

-- ---- its text

-- A byte between quotes: a quote (34) and a backslash (92) stand behind a backslash, and a newline (10) is `\n`.
abbrev pub escaped_byte : ℕ → List ℕ
escaped_byte b = if b == 34 then codes "\\\"" else if b == 92 then codes "\\\\" else if b == 10 then codes "\\n" else b ∷ []

-- The point that stands for the way out of the program, where an arrow leads there.
abbrev pub way_out : List ℕ → List ℕ → List ℕ
way_out set target = if bytes_eq target (codes "exit") then joined (codes "    \"" ∷ set ∷ codes ".exit\" [shape=point];\n" ∷ []) else []

-- Between which nodes an arrow leads: `"SET.FROM" -> "SET.TO"`, and how its label begins.
abbrev pub arrow_ends : List ℕ → List ℕ → List ℕ → List ℕ
arrow_ends set from to = joined (codes "    \"" ∷ set ∷ codes "." ∷ from ∷ codes "\" -> \"" ∷ set ∷ codes "." ∷ to ∷ codes "\" [label=\"" ∷ [])

-- How its line ends.
abbrev pub arrow_end : Bool → List ℕ
arrow_end is_missed = if is_missed then codes "\",color=red,fontcolor=red,style=dashed];\n" else codes "\"];\n"

-- The line of an arrow from a state of a state set.
abbrev pub arrow_line : List ℕ → List ℕ → Arrow → List ℕ
arrow_line set from a = arrow_ends set from a.target.items ++ (flat_map escaped_byte a.label.items ++ arrow_end a.is_missed)

-- It, behind the point that it leads to where it leads out of the program.
abbrev pub arrow_lines : List ℕ → List ℕ → Arrow → List ℕ
arrow_lines set from a = way_out set a.target.items ++ arrow_line set from a

-- Those from a state: one arrow for each of its clauses, in order.
abbrev pub arrows_from : List ℕ → StateNode → List ℕ
arrows_from set n = flat_map (arrow_lines set n.name.items) n.arrows.items

-- How the line of a state ends: the initial one has a thick border.
abbrev pub node_end : Bool → List ℕ
node_end is_first = if is_first then codes "\",penwidth=2];\n" else codes "\"];\n"

-- The line of a state.
abbrev pub node_line : List ℕ → List ℕ → Bool → List ℕ
node_line set name is_first = joined (codes "    \"" ∷ set ∷ codes "." ∷ name ∷ codes "\" [label=\"" ∷ name ∷ []) ++ node_end is_first

-- Those of states after the first k.
abbrev pub node_lines : List ℕ → ℕ → List StateNode → List ℕ
node_lines set k [] = []
node_lines set k (n ∷ ns) = node_line set n.name.items (k == 0) ++ node_lines set (suc k) ns

-- How a state set begins.
abbrev pub cluster_head : List ℕ → List ℕ
cluster_head set = joined (codes "  subgraph \"cluster_" ∷ set ∷ codes "\" { label=\"" ∷ set ∷ codes "\";\n" ∷ [])

-- A state set: its states, and then all arrows.
abbrev pub cluster_lines : Cluster → List ℕ
cluster_lines c =
    let set = c.name.items in
    cluster_head set ++ (node_lines set 0 c.nodes.items ++ (flat_map (arrows_from set) c.nodes.items ++ codes "  }\n"))

-- How a picture begins.
abbrev pub head : List ℕ → List ℕ
head name =
    joined (codes "digraph \"" ∷ name ∷ codes "\" {\n  rankdir=TB; node [shape=box,style=rounded,fontname=Helvetica];" ∷ codes " edge [fontname=Helvetica,fontsize=10];\n" ∷ [])

-- A picture.
abbrev pub drawn : Picture → List ℕ
drawn p = head p.name.items ++ (flat_map cluster_lines p.clusters.items ++ codes "}\n")
