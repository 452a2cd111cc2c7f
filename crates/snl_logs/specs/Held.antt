-- The values of a sample.
use Rattle.std.specs.Prelude.{ℤ, List}
use Rattle.snl_logs.specs.declared.held.Values.{Values}

-- The values, in their order.
abbrev pub numbers_of : Values → List ℤ
numbers_of values = values.items.items
