-- Laws of messages.
use Rattle.std.specs.Prelude.{◌≡◌, ℕ, ◌≤◌, List, [], ◌∷◌, ◌++◌, length, Option, Some, Ok, false}
use Rattle.std.proofs.Common.{sym, ap, subst, ◌∙◌, arith, rules, refl, append_assoc, append-nil, inl, inr, length-append}
use Rattle.messages.specs.Names.{append_cancel_left, AreMessages, as_known, Begun, Block, body_rules, BodyCoding, BodyWent, chunked, chunked_lawful, coding_of, EachReadGave, Enters, extent_of, FinishesBody, handed_of, heads, InBody, InsideGoes, InTurn, IsBody, IsBodyReader, IsHead, IsHeadPiece, IsMessage, known_of, left_of, Limits, Message, MessagesWent, method_kind, NextPiece, Reader, ReaderState, ReadsAlong-stream, request_framing, request_unique, room_of, sized_lawful, std_read_rules, StreamWent, StreamWent-joins, TookWholeBody, Unbuffered, unbuffered}
use Rattle.body_reader.specs.Coding.{IsLawful}
use Rattle.body_reader.specs.BodyReaderLaws.{BodyWent-joins, BodyWent-none}
use Rattle.body_reader.specs.EitherLaws.{either_lawful}
use Rattle.body_reader.specs.Sized.{sized}
use Rattle.body_reader.specs.declared.either.Either.TheVariants as coding
use Rattle.codec.specs.PiecesWentLaws.{PiecesWent-stream}
use Rattle.messages.specs.declared.head.Heads as head
use Rattle.messages.specs.HeadsLaws.{heads_lawful}

-- no body begins another
pub body_lawful : (c : BodyCoding) → IsLawful (body_rules c)
body_lawful = either_lawful (λ c. sized c.0) (λ c. chunked c.0) (λ c. sized_lawful c.0) (λ c. chunked_lawful c.0)

-- a byte is looked at
pub one_ahead : (c : BodyCoding) → (body_rules c).ahead ≡ 1
one_ahead (coding.First c) = refl
one_ahead (coding.Second c) = refl

-- no message begins another
pub one_message : (limits : Limits) (a b xs ys h k p q : List ℕ) → IsMessage limits a h p → IsMessage limits b k q
    → a ++ xs ≡ b ++ ys
    → (a ≡ b) × (h ≡ k) × (p ≡ q) × (xs ≡ ys)
one_message limits a b xs ys h k p q m n same =
    let cut : h ++ (m.wire ++ xs) ≡ k ++ (n.wire ++ ys) =
    simp append_assoc at (ap (λ l. l ++ xs) (sym m.equal) ∙ same ∙ ap (λ l. l ++ ys) n.equal) in
    let head = ((heads_lawful limits).one h k (m.wire ++ xs) (n.wire ++ ys) h k m.text n.text cut).0 in
    let behind : m.wire ++ xs ≡ n.wire ++ ys =
    append_cancel_left h (m.wire ++ xs) (n.wire ++ ys) (cut ∙ ap (λ l. l ++ (n.wire ++ ys)) (sym head)) in
    let is = subst (λ l. IsHead limits l n.text.said) (sym head) n.text.is in
    let here = m.text.is.known in
    let says = request_unique (as_known h) here.head is.known.head [] [] here.reads is.known.reads in
    let both = sym here.plain.framed
    ∙ ap (λ h. extent_of (request_framing (method_kind h.method) h.minor (known_of h.fields))) says.0 ∙ is.known.plain.framed in
    let extent : m.text.said.extent ≡ n.text.said.extent = cc in
    let body = (body_lawful (coding_of limits m.text.said.extent)).one m.wire n.wire p q xs ys m.body
    (subst (λ e. IsBody (body_rules (coding_of limits e)) n.wire q) (sym extent) n.body) behind in (
      m.equal ∙ ap (λ l. l ++ m.wire) head ∙ ap (λ l. k ++ l) body.0 ∙ sym n.equal,
      head,
      body.1,
      append_cancel_left m.wire xs ys (behind ∙ ap (λ l. l ++ ys) (sym body.0)),
    )

-- a text is cut into a number of messages in one way
pub one_cut : (limits : Limits) (ms ns : List Message) (a b xs ys : List ℕ) → length ms ≡ length ns → AreMessages limits ms a
    → AreMessages limits ns b
    → a ++ xs ≡ b ++ ys → (ms ≡ ns) × (xs ≡ ys)
one_cut limits [] [] a b xs ys many is is' same =
    (refl, sym (ap (λ l. l ++ xs) is) ∙ same ∙ ap (λ l. l ++ ys) is')
one_cut limits [] (n ∷ ns) a b xs ys many is is' same = absurd (omega (arith, many))
one_cut limits (m ∷ ms) [] a b xs ys many is is' same = absurd (omega (arith, many))
one_cut limits (m ∷ ms) (n ∷ ns) a b xs ys many (f, x, is, are, equal) (k, y, is', are', equal') same =
    let cut : f ++ (x ++ xs) ≡ k ++ (y ++ ys) =
    simp append_assoc at (ap (λ l. l ++ xs) (sym equal) ∙ same ∙ ap (λ l. l ++ ys) equal') in
    let first = one_message limits f k (x ++ xs) (y ++ ys) m.0 n.0 m.1 n.1 is is' cut in
    let later = one_cut limits ms ns x y xs ys (omega (arith, many)) are are' first.3 in
    let pair : m ≡ n = ap (λ l. (l, m.1)) first.1 ∙ ap (λ l. (n.0, l)) first.2 in
    (ap (λ l. l ∷ ms) pair ∙ ap (λ l. n ∷ l) later.0, later.1)

-- of one, and of some and then more
pub InTurn-one : (Is : Message → List ℕ → Type 0) (m : Message) (text : List ℕ) → Is m text → InTurn Is (m ∷ []) text
InTurn-one Is m text is = (text, [], is, refl, sym (append-nil text))

pub InTurn-joins : (Is : Message → List ℕ → Type 0) (ms ns : List Message) (a b : List ℕ) → InTurn Is ms a → InTurn Is ns b
    → InTurn Is (ms ++ ns) (a ++ b)
InTurn-joins Is [] ns a b is are = subst (λ l. InTurn Is ns (l ++ b)) (sym is) are
InTurn-joins Is (m ∷ ms) ns a b (f, more, one, is, equal) are =
    (f, more ++ b, one, InTurn-joins Is ms ns more b is are, ap (λ l. l ++ b) equal ∙ append_assoc f more b)

-- each has a byte
pub AreMessages-some : (limits : Limits) (ms : List Message) (bytes : List ℕ) → AreMessages limits ms bytes
    → length ms ≤ length bytes
AreMessages-some limits [] bytes none = omega arith
AreMessages-some limits (m ∷ ms) bytes (first, more, is, are, equal) =
    let some = (heads_lawful limits).some m.0 m.0 is.text in
    let later = AreMessages-some limits ms more are in
    grind (arith, is.equal, length-append)

pub same_room : (b c : Block) → b.capacity ≡ c.capacity → b.limit ≡ c.limit → room_of b ≡ room_of c
same_room b c capacity limit = cc

-- reads that each gave some, and then more such
pub EachReadGave-joins : {S : Type 0} (s m t : Unbuffered S) → EachReadGave s m → EachReadGave m t → EachReadGave s t
EachReadGave-joins s m t before more = (more.0 ∙ before.0, more.1 ∙ before.1)

module _ {S : Type 0} (remaining : S → Option (List ℕ)) where
  -- a head that was handed out
  pub lent : (s t : ReaderState S head.Heads) (bytes : List ℕ)
      (next : NextPiece remaining (heads s.decoder.0) s (Ok (Some bytes)) t) → (next.bytes ≡ bytes)
      × IsHeadPiece s.decoder.0 bytes bytes
  lent s t bytes next =
      let piece : IsHeadPiece s.decoder.0 next.bytes bytes = elim next.answers.1 [ inl is ↦ is.0 | inr last ↦ absurd last.0 ] in
      (sym piece.same, subst (λ l. IsHeadPiece s.decoder.0 l bytes) (sym piece.same) piece)

  -- under the limits that the reader has still, which knows of no end
  pub lent_still : (s t : ReaderState S head.Heads) (bytes : List ℕ)
      → NextPiece remaining (heads s.decoder.0) s (Ok (Some bytes)) t → IsHeadPiece t.decoder.0 bytes bytes × (t.ended ≡ false)
  lent_still s t bytes next = (
    subst (λ d. IsHeadPiece d.0 bytes bytes) (sym next.went.decoder) (lent s t bytes next).1,
    elim next.answers.1 [ inl is ↦ is.1 | inr last ↦ absurd last.0 ],
  )

  pub Begun-went : (s : ReaderState S head.Heads) (b : InBody S) → Begun remaining s b
      → StreamWent remaining (left_of s) b.head (unbuffered b.body.reader)
  Begun-went s b begun =
      rw (begun.stream, ← (lent s begun.behind b.head begun.next).0)
      (PiecesWent-stream remaining (heads s.decoder.0).most s begun.behind begun.next.bytes begun.next.went)

  -- and no read for it failed, or gave nothing
  pub Begun-gave : (s : ReaderState S head.Heads) (b : InBody S) → Begun remaining s b
      → EachReadGave (left_of s) (unbuffered b.body.reader)
  Begun-gave s b begun = (
    ap (λ u. u.log.reads.faults) begun.stream ∙ begun.next.answers.0,
    ap (λ u. u.log.reads.zero_reads) begun.stream
        ∙ elim begun.next.answers.1 [ inl is ↦ is.2 | inr last ↦ absurd last.0 ],
  )

  -- with its body it is a message
  pub Begun-message : (s : ReaderState S head.Heads) (b : InBody S) (wire payload : List ℕ) → Begun remaining s b
      → IsBody (body_rules (coding_of s.decoder.0 b.said.extent)) wire payload
      → (m : IsMessage s.decoder.0 (b.head ++ wire) b.head payload) × (m.wire ≡ wire) × (m.text.said ≡ b.said)
  Begun-message s b wire payload begun body = (
    record {
      wire = wire;
      equal = refl;
      text = record (lent s begun.behind b.head begun.next).1 { said = b.said; is = begun.is };
      body = body;
    },
    refl,
    refl,
  )

  -- calls in a body go on
  pub InsideGoes-none : (b : InBody S) → IsBodyReader (body_rules b.body.coding) b.body → InsideGoes remaining b [] b
  InsideGoes-none b whole = search (rules, BodyWent-none remaining std_read_rules (body_rules b.body.coding) b.body)

  pub InsideGoes-joins : (s m t : InBody S) (h k : List ℕ) → InsideGoes remaining s h m → InsideGoes remaining m k t
      → InsideGoes remaining s (h ++ k) t
  InsideGoes-joins s m t h k a b =
      let next = subst (λ c. BodyWent remaining std_read_rules (body_rules c) m.body k t.body) a.went.coding b.went in
      let went = BodyWent-joins remaining std_read_rules (body_rules s.body.coding) s.body m.body t.body h k a.went next in
      search rules

  -- those since a body began, up to its end, took just that
  pub whole_body : {limits : Limits} {b : InBody S} {handed : List ℕ} {t : Reader S} → Enters limits b
      → (went : BodyWent remaining std_read_rules (body_rules b.body.coding) b.body handed t)
      → TookWholeBody (body_rules b.body.coding) t → IsBody (body_rules (coding_of limits b.said.extent)) went.wire handed
  whole_body {limits} {b} {handed} {t} enters went whole =
      let wire : t.taken ≡ went.wire = went.taken ∙ ap (λ x. x.body.taken ++ went.wire) enters.is in
      let payload : handed_of t ≡ handed = went.handed ∙ ap (λ x. handed_of x.body ++ handed) enters.is in
      rw (wire, payload, ap (λ x. x.body.coding) enters.is) at whole

  -- whatever was read of it, a message that is begun and ended went whole
  pub MessagesWent-one : (s : ReaderState S head.Heads) (b m : InBody S) (handed : List ℕ) (t : ReaderState S head.Heads)
      → Begun remaining s b → BodyWent remaining std_read_rules (body_rules b.body.coding) b.body handed m.body
      → (ends : FinishesBody remaining m t)
      → MessagesWent remaining s.decoder.0 (left_of s) ((b.head, handed ++ ends.drains.payload) ∷ []) (left_of t)
  MessagesWent-one s b m handed t begun went ends =
      let payload = handed ++ ends.drains.payload in
      let all = BodyWent-joins remaining std_read_rules (body_rules b.body.coding) b.body m.body ends.end handed
      ends.drains.payload went
      (subst (λ c. BodyWent remaining std_read_rules (body_rules c) m.body ends.drains.payload ends.end) went.coding
      ends.drains.takes.went) in
      let whole = subst (λ c. TookWholeBody (body_rules c) ends.end) went.coding ends.drains.answers.1 in
      record {
        bytes = b.head ++ all.wire;
        are = InTurn-one (λ m first. IsMessage s.decoder.0 first m.0 m.1) (b.head, payload) (b.head ++ all.wire)
            (Begun-message s b all.wire payload begun (whole_body begun.enters all whole)).0;
        went = subst (StreamWent remaining (left_of s) (b.head ++ all.wire)) (sym ends.left)
            (StreamWent-joins remaining (left_of s) (unbuffered b.body.reader) (unbuffered ends.end.reader) b.head all.wire
            (Begun-went s b begun)
            (ReadsAlong-stream remaining std_read_rules b.body.reader all.wire ends.end.reader all.along));
      }

  pub MessagesWent-joins : (limits : Limits) (s m t : Unbuffered S) (ms ns : List Message) → MessagesWent remaining limits s ms m
      → MessagesWent remaining limits m ns t → MessagesWent remaining limits s (ms ++ ns) t
  MessagesWent-joins limits s m t ms ns before one = record {
    bytes = before.bytes ++ one.bytes;
    are = InTurn-joins (λ m first. IsMessage limits first m.0 m.1) ms ns before.bytes one.bytes before.are one.are;
    went = StreamWent-joins remaining s m t before.bytes one.bytes before.went one.went;
  }
