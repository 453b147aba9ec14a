-- Prints, read as the rules' prints.
use Rattle.std.specs.Prelude.{ℕ, ℤ, Result}
use Rattle.rules.specs.Answers as R
use Rattle.rules.specs.Prints as P
use Rattle.core_terms.specs.Errors.{answered}
use Rattle.core_terms.specs.declared.error.CoreError.{CoreError}
use Rattle.core_prices.specs.declared.print.Print.{Print}
use Rattle.core_prices.specs.declared.print.Quote.{Quote}

abbrev pub print_at : ℕ → ℤ → ℤ → P.Print
print_at price published prev = record { price = price; published = published; prev = prev }

unfoldable pub print_of : Print → P.Print
print_of p = print_at p.price p.publish_time p.prev_publish_time

abbrev pub print_result_of : Result Print CoreError → R.Result P.Print
print_result_of = answered print_of

abbrev pub quote_at : ℤ → ℕ → ℤ → ℤ → ℤ → P.Quote
quote_at price conf exponent published prev =
    record { price = price; conf = conf; exponent = exponent; published = published; prev = prev }

unfoldable pub quote_of : Quote → P.Quote
quote_of q = quote_at q.price q.conf q.exponent q.publish_time q.prev_publish_time
