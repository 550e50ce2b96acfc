-- By default a seek leaves what is flushed and what is shown, so its own clause is what `SeekTells` asks.
use Rattle.std.proofs.Common.{inl, refl}
use Rattle.redux_buffer.proofs.tell.told.ToldTellSeek.TheImpl.Goals as goal

pub seek_told-tells : goal.seek_told-tells
seek_told-tells g c = record {
  told = record {
    flushed = _;
    shown = _;
    told = c.ensures.told;
    flushes = inl refl;
    drops = inl refl;
    ready = refl;
  };
  moves = c.ensures.moves;
  bytes = c.ensures.bytes;
}
