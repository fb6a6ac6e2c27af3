mod PortLaws
mod Laws
