-- What requests ask for, and what is done and replied.
use Rattle.std.specs.Prelude.{◌≡◌, ℕ, ℤ, pos, ◌+ℤ◌, ◌+◌, ◌-◌, ◌^◌, ◌≤◌, ◌⊎◌, List, [], ◌∷◌, length, map, codes, decimal, Bool, true, false, None, Some, IsSomeAnd, MatchOption}
use Rattle.std.specs.Fmt.{signed_decimal}
use Rattle.std.specs.Char.{to_ascii_lowercase}
use Rattle.std.specs.Int.{w64}
use Rattle.std.specs.Int.RustNames.{FitsSigned}
use Rattle.resp.specs.declared.command.Command.{Command}
use Rattle.resp.specs.declared.command.Command.TheVariants as command
use Rattle.resp.specs.declared.command.Name.{Name}
use Rattle.resp.specs.declared.command.Name.TheVariants as name
use Rattle.resp.specs.Numbers.{IsInteger}
use Rattle.decoders.specs.TextWords.{bulk_string}
use Rattle.resp.specs.Replies.{number_reply}
use Rattle.resp.specs.Stored.{IsFull, MayHold, Same, SetsValue, Values, counts_for}
use Rattle.resp.specs.Waiting.{bytes_of}

-- the same word, in either case
abbrev pub SameWord : List ℕ → List ℕ → Type 0
SameWord word other = map to_ascii_lowercase word ≡ map to_ascii_lowercase other

abbrev pub word_of : Name → List ℕ
word_of name.Ping = codes "ping"
word_of name.Echo = codes "echo"
word_of name.Get = codes "get"
word_of name.Set = codes "set"
word_of name.Del = codes "del"
word_of name.Incr = codes "incr"
word_of name.DbSize = codes "dbsize"
word_of name.Quit = codes "quit"
word_of name.Command = codes "command"
word_of name.Config = codes "config"

abbrev pub IsNoName : List ℕ → Type 0
IsNoName word = (n : Name) → ¬ (SameWord word (word_of n))

-- behind this name a command has so many other parts
abbrev pub HasParts : Name → ℕ → Type 0
HasParts name.Ping n = n ≤ 1
HasParts name.Echo n = n ≡ 1
HasParts name.Get n = n ≡ 1
HasParts name.Set n = n ≡ 2
HasParts name.Del n = 1 ≤ n
HasParts name.Incr n = n ≡ 1
HasParts name.DbSize n = n ≡ 0
HasParts name.Quit n = n ≡ 0
HasParts name.Command n = Unit {0}
HasParts name.Config n = Unit {0}

-- which command it is, with this name and these other parts
abbrev pub MeansRest : Name → List (List ℕ) → Command → Type 0
MeansRest n rest command.Ping = (n ≡ name.Ping) × (rest ≡ [])
MeansRest n rest (command.Echo text) = ((n ≡ name.Ping) ⊎ (n ≡ name.Echo)) × (rest ≡ text.now ∷ [])
MeansRest n rest (command.Get key) = (n ≡ name.Get) × (rest ≡ key.now ∷ [])
MeansRest n rest (command.Set key value) = (n ≡ name.Set) × (rest ≡ key.now ∷ value.now ∷ [])
MeansRest n rest (command.Del keys) = (n ≡ name.Del) × (rest ≡ bytes_of keys.now) × (1 ≤ length rest)
MeansRest n rest (command.Incr key) = (n ≡ name.Incr) × (rest ≡ key.now ∷ [])
MeansRest n rest command.DbSize = (n ≡ name.DbSize) × (rest ≡ [])
MeansRest n rest command.Quit = (n ≡ name.Quit) × (rest ≡ [])
MeansRest n rest command.Nothing = (n ≡ name.Command) ⊎ (n ≡ name.Config)
MeansRest n rest command.Arguments = ¬ (HasParts n (length rest))
MeansRest n rest command.Unknown = ⊥

-- a request has a name, and is a command with that; or it has none
abbrev pub Means : List (List ℕ) → Command → Type 0
Means [] c = c ≡ command.Unknown
Means (word ∷ rest) c =
    ((n : Name) × SameWord word (word_of n) × MeansRest n rest c) ⊎ (IsNoName word × (c ≡ command.Unknown))

-- the number at a key, an i64, which is 0 where there is none
abbrev pub HasNumber : Values → List ℕ → ℤ → Type 0
HasNumber values key m = FitsSigned w64 m × MatchOption (values.value key) (m ≡ pos 0) (λ text. text ≡ signed_decimal m)

-- it may be raised to this: one more, which is an i64 too, and may be held
abbrev pub MayRaise : Values → List ℕ → ℤ → Type 0
MayRaise values key n = (m : ℤ) × HasNumber values key m × (n ≡ m +ℤ pos 1) × FitsSigned w64 n × MayHold key values

-- it is raised to this
abbrev pub Raises : Values → List ℕ → ℤ → Values → Type 0
Raises old key n new = MayRaise old key n × SetsValue key (Some (signed_decimal n)) old new

-- it is not raised, and why: there is no number, or the greatest that there is, or no room for one; or it may be, and memory is
-- refused
abbrev pub RaisesNone : Values → List ℕ → List ℕ → Values → Type 0
RaisesNone old key why new = Same old new
    × (((why ≡ codes "-ERR value is not an integer or out of range\r\n")
    × IsSomeAnd (old.value key) (λ text. ¬ (IsInteger text)))
    ⊎ (((why ≡ codes "-ERR increment or decrement would overflow\r\n")
    × (old.value key ≡ Some (signed_decimal (pos (2 ^ 63 - 1)))))
    ⊎ (((why ≡ codes "-ERR too many keys\r\n") × IsFull key old)
    ⊎ ((why ≡ codes "-ERR out of memory\r\n") × ((n : ℤ) × MayRaise old key n)))))

-- keys are taken out one after another, and so many of them were there
abbrev pub Deletes : List (List ℕ) → Values → ℕ → Values → Type 0
Deletes [] old n new = (n ≡ 0) × Same old new
Deletes (key ∷ keys) old n new = (between : Values) × (m : ℕ) × SetsValue key None old between
    × (n ≡ counts_for (old.value key) + m) × Deletes keys between m new

-- what a command does, and its reply. Memory is refused only for what might be held
abbrev pub Acts : Values → Command → List ℕ → Values → Type 0
Acts old command.Ping reply new = (reply ≡ codes "+PONG\r\n") × Same old new
Acts old (command.Echo text) reply new = (reply ≡ bulk_string text.now) × Same old new
Acts old (command.Get key) reply new =
    MatchOption (old.value key.now) (reply ≡ codes "$-1\r\n") (λ value. reply ≡ bulk_string value) × Same old new
Acts old (command.Set key value) reply new =
    ((reply ≡ codes "+OK\r\n") × MayHold key.now old × SetsValue key.now (Some value.now) old new)
    ⊎ (((reply ≡ codes "-ERR too many keys\r\n") × IsFull key.now old × Same old new)
    ⊎ ((reply ≡ codes "-ERR out of memory\r\n") × MayHold key.now old × Same old new))
Acts old (command.Del keys) reply new = (n : ℕ) × (reply ≡ number_reply (decimal n)) × Deletes (bytes_of keys.now) old n new
Acts old (command.Incr key) reply new =
    ((n : ℤ) × (reply ≡ number_reply (signed_decimal n)) × Raises old key.now n new) ⊎ RaisesNone old key.now reply new
Acts old command.DbSize reply new = (reply ≡ number_reply (decimal old.count)) × Same old new
Acts old command.Quit reply new = (reply ≡ codes "+OK\r\n") × Same old new
Acts old command.Nothing reply new = (reply ≡ codes "*0\r\n") × Same old new
Acts old command.Arguments reply new = (reply ≡ codes "-ERR wrong number of arguments\r\n") × Same old new
Acts old command.Unknown reply new = (reply ≡ codes "-ERR unknown command\r\n") × Same old new

-- no request is taken behind `QUIT`
abbrev pub takes_more : Command → Bool
takes_more command.Quit = false
takes_more c = true
