-- What a program takes along of its source, before it is there.
use Rattle.std.specs.Prelude.{◌≡◌, length, drop}
use Rattle.snl_text.specs.declared.tokens.Lexed.{Lexed}
use Rattle.snl_tree.specs.declared.readers.boxes.programs.SourceParts.{SourceParts}
use Rattle.snl_syntax.specs.view.Programs.{first_place}

-- The pieces of embedded C, the files, the count of tokens, and the place of the first token after the first
-- 65,536.
pub record Holds (parts : SourceParts) (lexed : Lexed) : Type 0 where
  pub embedded : parts.embedded.items ≡ lexed.embedded.items
  pub files : parts.files.items ≡ lexed.files.items
  pub token_count : parts.token_count ≡ length lexed.tokens.items
  pub beyond : parts.beyond ≡ first_place (drop 65536 lexed.tokens.items)
