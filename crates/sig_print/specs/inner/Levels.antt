-- The levels of the printer as the numbers of the grammar.
use Rattle.sig_print.specs.Prelude.{ℕ, default_level, mixed_level, clock_level, or_level, and_level, not_level, relation_level, sum_level, product_level, minus_level, delay_level, primary_level}
use Rattle.sig_print.specs.declared.level.Level.{Level}
use Rattle.sig_print.specs.declared.level.Level.TheVariants.{Default, Mixed, Clock, Or, And, Not, Relation, Sum, Product, Minus, Delay, Primary}

abbrev pub level_number : Level → ℕ
level_number Default = default_level
level_number Mixed = mixed_level
level_number Clock = clock_level
level_number Or = or_level
level_number And = and_level
level_number Not = not_level
level_number Relation = relation_level
level_number Sum = sum_level
level_number Product = product_level
level_number Minus = minus_level
level_number Delay = delay_level
level_number Primary = primary_level
