-- The sites in a block.
use Rattle.std.proofs.Common.{◌≡◌, Bool, true, List, [], ◌++◌, map, sym, ap, ◌∙◌, append_assoc}
use Rattle.std.specs.List.{flat_map}
use Rattle.snl_text.specs.declared.tokens.Token.{Token}
use Rattle.snl_syntax.specs.declared.declarations.Declaration.{Declaration}
use Rattle.snl_syntax.specs.declared.statements.Block.{Block as DeclaredBlock}
use Rattle.snl_syntax.specs.declared.statements.Stmt.{Stmt, Block}
use Rattle.snl_syntax.specs.view.Declarations.{declaration_view}
use Rattle.snl_syntax.specs.Definitions.{declaration}
use Rattle.snl_syntax.specs.view.Lists.{statement_list}
use Rattle.snl_syntax.specs.view.Statements.{statement_view, block_view}
use Rattle.snl_names.specs.declared.sites.Site.{Site}
use Rattle.snl_names.specs.declared.sites.Room.{Room}
use Rattle.snl_names.specs.Scopes.{Scope, scope_of}
use Rattle.snl_names.specs.Sights.{Sight, within}
use Rattle.snl_names.specs.Sites.{declares, in_declaration, in_statement, in_statements, in_block}
use Rattle.snl_syntax.proofs.StatementRows.{view_block}

-- a block: its names, its declarations, its statements
pub block_noted : (c : Room) (g : List Token) (s : Sight) (l : Bool) (b : DeclaredBlock) (ds es : List Declaration) (ss : List Stmt) (scope : Scope) (sight : Sight) (old mid after new : List Site)
    → ds ≡ b.declarations.items → es ≡ b.declarations.items → ss ≡ b.statements.items
    → scope ≡ scope_of s.scopes (map declaration (map declaration_view ds)) → sight ≡ within scope s
    → mid ≡ old ++ declares [] (scope_of s.scopes (map declaration (map declaration_view ds)))
    → after ≡ mid ++ flat_map (in_declaration sight true) (map declaration_view es)
    → new ≡ after ++ in_statements c g sight l (statement_list (map statement_view ss))
    → new ≡ old ++ in_block c g s l (block_view b)
block_noted c g s l b ds es ss scope sight old mid after new ed ee es' ec ei em eb en =
    let views = map declaration_view b.declarations.items in
    let inside = scope_of s.scopes (map declaration views) in
    let same : sight ≡ within inside s = ei ∙ ap (λ x. within x s) (ec ∙ ap (λ x. scope_of s.scopes (map declaration (map declaration_view x))) ed) in
    let all = statement_list (map statement_view b.statements.items) in
    en
    ∙ (λ j. eb j ++ in_statements c g (same j) l (statement_list (map statement_view (es' j))))
    ∙ (λ j. (em j ++ flat_map (in_declaration (same j) true) (map declaration_view (ee j))) ++ in_statements c g (within inside s) l all)
    ∙ (λ j. ((old ++ declares [] (scope_of s.scopes (map declaration (map declaration_view (ed j))))) ++ flat_map (in_declaration (within inside s) true) views)
    ++ in_statements c g (within inside s) l all)
    ∙ ap (λ x. x ++ in_statements c g (within inside s) l all) (append_assoc old (declares [] inside) (flat_map (in_declaration (within inside s) true) views))
    ∙ append_assoc old (declares [] inside ++ flat_map (in_declaration (within inside s) true) views) (in_statements c g (within inside s) l all)

-- a block that stands among statements
pub nested_noted : (c : Room) (g : List Token) (s : Sight) (l : Bool) (a : Stmt) (b : DeclaredBlock) (old new : List Site) → a ≡ Block b
    → new ≡ old ++ in_block c g s l (block_view b) → new ≡ old ++ in_statement c g s l (statement_view a)
nested_noted c g s l a b old new ea en = en ∙ ap (λ x. old ++ in_statement c g s l x) (sym (ap statement_view ea ∙ view_block b))
