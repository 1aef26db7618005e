-- What is told of the runs of some messages (own rule): `messages N`, `accepted A`, `rejected R`, `bytes B`, `loads L`.
use Rattle.std.specs.Prelude.{ℕ, List, ◌++◌, codes, decimal}
use Rattle.td_cli.specs.declared.totals.Totals.{Totals}

-- a word, a count in decimal and a line feed
unfoldable pub count_line : List ℕ → ℕ → List ℕ
count_line word n = word ++ (decimal n ++ codes "\n")

abbrev pub totals_text : Totals → List ℕ
totals_text t =
    count_line (codes "messages ") t.messages
    ++ (count_line (codes "accepted ") t.accepted
    ++ (count_line (codes "rejected ") t.rejected
    ++ (count_line (codes "bytes ") t.bytes
    ++ count_line (codes "loads ") t.loads)))
