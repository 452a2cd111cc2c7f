use Rattle.std.proofs.Common.{◌≡◌, ◌++◌, map, drop, string_bytes}
use Rattle.snl_lints.specs.Columns.{IsCounted}
use Rattle.snl_lints.specs.Lines.{remarks_text}
use Rattle.snl_lints.proofs.lines.push_lines.Given as goal

abbrev pub invariant-loop-remark : goal.invariant-loop-remark
invariant-loop-remark l =
    record {
      counted : IsCounted l.text.source.now l.counted;
      lines :
          l.out.items ++ remarks_text (map string_bytes l.silenced) l.text.source.now (map (λ name. name.now) l.text.marked.now) l.text.file.now (drop l.remark-index l.remarks)
          ≡ l.initial.out.items ++ remarks_text (map string_bytes l.silenced) l.text.source.now (map (λ name. name.now) l.text.marked.now) l.text.file.now l.remarks;
    }
