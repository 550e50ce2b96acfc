-- A client that isn't closed is served.
use Rattle.resp.proofs.client.Client.serve.Goals as goal

pub returns-clause-serves : goal.returns-clause-serves
returns-clause-serves g c = rw (c.if-self.false) (rw (c.if-self.false) at c.serve_open.ensures.serves)
