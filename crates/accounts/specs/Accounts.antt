-- What a list of accounts says of the streams.
use Rattle.std.specs.Prelude.{◌≡◌, ℕ, ◌+◌, ◌≤◌, false, cond, List, [], ◌∷◌, length, pos, negsuc, ◌+ℤ◌, ◌-ℤ◌, ◌≤ℤ◌, is_some, Some, None, Option, ◌==◌}
use Rattle.credit.specs.Credit.{Credit, Meaning, MAX, amount, left}
use Rattle.accounts.specs.declared.accounts_of_streams.Account.{Account}

-- an account's credit over a base: the window is the balance and the base
abbrev pub credit_at : ℕ → Account → Credit
credit_at base a = record { window = a.balance +ℤ pos base; held = a.held }

-- an account after increments, with an amount held, and after octets spent
abbrev pub raised_by : ℕ → Account → Account
raised_by v a = record { id = a.id; balance = a.balance +ℤ pos v; held = a.held }

abbrev pub holding_now : ℕ → Account → Account
holding_now n a = record { id = a.id; balance = a.balance; held = Some n }

abbrev pub spent_by : ℕ → Account → Account
spent_by n a = record { id = a.id; balance = a.balance -ℤ pos n; held = None }

-- and after a new initial window that the balance itself takes up
abbrev pub shifted_by : ℕ → ℕ → Account → Account
shifted_by before v a = record { id = a.id; balance = a.balance +ℤ (pos v -ℤ pos before); held = a.held }

-- a stream's credit, by the first account that has its id
abbrev pub stream_in : ℕ → List Account → ℕ → Option Credit
stream_in base [] id = None
stream_in base (a ∷ rows) id = cond (a.id == id) (Some (credit_at base a)) (stream_in base rows id)

-- what the accounts hold together
abbrev pub held_in : List Account → ℕ
held_in [] = 0
held_in (a ∷ rows) = amount a.held + held_in rows

-- an account rows a gate has it: an id above 0, a window of at most MAX, and at least the initial window less MAX left
abbrev pub Fair : ℕ → ℕ → Account → Type 0
Fair base initial a = (1 ≤ a.id) × ((credit_at base a).window ≤ℤ pos MAX) × (pos initial ≤ℤ (left (credit_at base a) +ℤ pos MAX))

-- every account is fair, and no two have one id
abbrev pub Fairs : ℕ → ℕ → List Account → Type 0
Fairs base initial [] = Unit {0}
Fairs base initial (a ∷ rows) = Fair base initial a × (is_some (stream_in base rows a.id) ≡ false) × Fairs base initial rows

-- what the books mean
abbrev pub meant : ℕ → ℕ → ℕ → ℕ → List Account → Meaning
meant base initial connection held rows = record { initial = initial; connection = connection; stream = stream_in base rows; begun = length rows; held = held; limit = 64 }

-- a balance does not pass MAX when it takes up a new initial window
abbrev pub Fits : ℕ → ℕ → Account → Type 0
Fits before v a = (shifted_by before v a).balance ≤ℤ pos MAX

-- a balance that takes up a new initial window stays from -MAX to MAX
abbrev pub InRange : ℕ → ℕ → Account → Type 0
InRange before v a = (negsuc 2147483646 ≤ℤ (shifted_by before v a).balance) × ((shifted_by before v a).balance ≤ℤ pos 2147483647)

-- a window from -MAX to MAX
abbrev pub InBounds : Credit → Type 0
InBounds c = (negsuc 2147483646 ≤ℤ c.window) × (c.window ≤ℤ pos 2147483647)
