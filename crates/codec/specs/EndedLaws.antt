-- Laws of pieces that have their own end.
use Rattle.std.specs.Prelude.{ℕ, List, ◌++◌}
use Rattle.std.proofs.Common.{refl}
use Rattle.piece_reader.specs.declared.decoder.Found.{Found}
use Rattle.piece_reader.specs.declared.decoder.Found.TheVariants as found
use Rattle.codec.specs.declared.ended.Unended.TheVariants.{Wrong}
use Rattle.piece_reader.specs.Decoding.{Decodes}
use Rattle.codec.specs.Ended.{ended}
use Rattle.codec.specs.FirstByte.{found_as}
use Rattle.codec.specs.FirstByteLaws.{renamed_lawful}
use Rattle.piece_reader.specs.Grammar.{Grammar, IsLawful, IsOpen}
use Rattle.piece_reader.specs.GrammarLaws.{open_as}

module _ {W : Type 0} (g : Grammar W) where
  pub ended_lawful : IsLawful g → IsLawful (ended g)
  ended_lawful law =
      let own = renamed_lawful (λ e. Wrong e) g law in
      record {
        one = own.one;
        some = own.some;
        room = own.room;
        apart = own.apart;
        reason = own.reason;
        stays = own.stays;
        nothing = own.nothing;
        one_last = λ bytes a b is is'. absurd is;
        end_apart = λ bytes a e is. absurd is;
      }

  open_ended : (bytes : List ℕ) → IsOpen g bytes → IsOpen (ended g) bytes
  open_ended bytes = open_as g (ended g) bytes (λ piece payload is. (payload, is)) (λ e wrong. (wrong.0, wrong.1))

  pub ended_open : (bytes : List ℕ) → IsOpen (ended g) bytes → IsOpen g bytes
  ended_open bytes = open_as (ended g) g bytes (λ piece payload is. (payload, is)) (λ e wrong. (Wrong e, (e, wrong, refl)))

  pub ended_decodes : (bytes : List ℕ) (is : Found W) → Decodes g bytes is → Decodes (ended g) bytes (found_as (λ e. Wrong e) is)
  ended_decodes bytes (found.Piece span used) is = record { inside = is.inside; within = is.within; is = is.is }
  ended_decodes bytes (found.More n) (few, most, lacks) =
      (few, most, λ more short. open_ended (bytes ++ more) (lacks more short))
  ended_decodes bytes (found.Wrong e) is = (e, is, refl)
